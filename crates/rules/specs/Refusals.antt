-- The number and the place that each refusal is told by.
use Rattle.std.specs.Prelude.{◌≡◌, ℕ}
use Rattle.rules.specs.declared.refusal.Refusal.{Refusal}
use Rattle.rules.specs.declared.refusal.Refusal.TheVariants.{InputEnds, UnknownKind, EmptyList, NoSuchGroup, EqualGroups, WrongCounts, BytesAfterEnd, NoPlace, Counts, RegionTooShort, Allowance, TooManyMoves, BranchDisturbed, NothingClosed, BaseFull, BaseDisturbed, NotListed, RuleBroken, LineFull, BranchFull}

abbrev pub told : Refusal → ℕ × ℕ
told (InputEnds at) = (1, at)
told (UnknownKind at) = (2, at)
told (EmptyList at) = (3, at)
told (NoSuchGroup at) = (4, at)
told (EqualGroups at) = (5, at)
told (WrongCounts at) = (6, at)
told (BytesAfterEnd at) = (7, at)
told (NoPlace at) = (8, at)
told Counts = (9, 0)
told RegionTooShort = (10, 0)
told Allowance = (11, 0)
told TooManyMoves = (12, 0)
told BranchDisturbed = (13, 0)
told NothingClosed = (14, 0)
told BaseFull = (15, 0)
told BaseDisturbed = (16, 0)
told (NotListed group) = (17, group)
told (RuleBroken rule) = (18, rule)
told LineFull = (19, 0)
told BranchFull = (20, 0)

abbrev pub numbered : Refusal → ℕ
numbered r = (told r).0

abbrev pub placed : Refusal → ℕ
placed r = (told r).1

-- the number and the place tell two refusals apart
abbrev pub ToldApart : Type 0
ToldApart = (a b : Refusal) → told a ≡ told b → a ≡ b
