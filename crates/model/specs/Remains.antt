-- What remains of the lists after the decisions on a branch, the rules and the recorded nogoods.
use Rattle.std.specs.Prelude.{◌≡◌, ℕ, ◌<◌, Bool, true, false, ◌≢◌, List, length, Some, slice_index, slice_index_or}
use Rattle.rules.specs.Channels.{has}
use Rattle.rules.specs.Plans.{Listed}
use Rattle.model.specs.Masks.{grp, chan}
use Rattle.std.specs.List.{AllByRecursion}
use Rattle.rules.specs.Meanings.{Meaning}
use Rattle.model.specs.Decisions.{Decision, taken, refused}

-- A family of sets of channels, one a group, as the test whether group g keeps channel c.
abbrev pub Family : Type 0
Family = ℕ → ℕ → Bool

-- The family that a list of masks stands for.
abbrev pub family : List ℕ → Family
family masks g c = has (slice_index masks g) c

-- The group of the assignment w keeps no channel but its own; and the channel of w is gone.
abbrev pub Only : Family → ℕ → Type 0
Only k w = (c : ℕ) → k (grp w) c ≡ true → c ≡ chan w

abbrev pub Gone : Family → ℕ → Type 0
Gone k w = k (grp w) (chan w) ≡ false

abbrev pub Obeys : Family → Decision → Type 0
Obeys k (taken w) = Only k w
Obeys k (refused w) = Gone k w

-- Each assignment of the nogood whose other assignments' groups keep no channel but theirs is gone.
abbrev pub Heeds : Family → List ℕ → Type 0
Heeds k nogood = AllByRecursion (λ w. AllByRecursion (λ v. v ≢ w → Only k v) nogood → Gone k w) nogood

pub record Meets (lists : List ℕ) (book : Meaning) (base : List (List ℕ)) (branch : List Decision) (k : Family) : Type 0 where
  pub within : (g c : ℕ) → k g c ≡ true → Listed lists g c
  pub decided : AllByRecursion (Obeys k) branch
  pub across : (i g h a : ℕ) → book.ends i ≡ Some (g, h) → k g a ≡ true → (b : ℕ) × (k h b ≡ true) × (book.permits i a b ≡ true)
  pub back : (i g h b : ℕ) → book.ends i ≡ Some (g, h) → k h b ≡ true → (a : ℕ) × (k g a ≡ true) × (book.permits i a b ≡ true)
  pub heeded : AllByRecursion (Heeds k) base

-- The largest family that meets the conditions.
pub record Remains (lists : List ℕ) (book : Meaning) (base : List (List ℕ)) (branch : List Decision) (k : Family) : Type 0 where
  pub meets : Meets lists book base branch k
  pub largest : (k' : Family) → Meets lists book base branch k' → (g c : ℕ) → k' g c ≡ true → k g c ≡ true

module _ (lists : List ℕ) (k : Family) where
  -- Some group keeps nothing; every group keeps something; every group keeps one channel and no other.
  abbrev pub Dead : Type 0
  Dead = (g : ℕ) × (g < length lists) × ((c : ℕ) → k g c ≡ false)

  abbrev pub Alive : Type 0
  Alive = (g : ℕ) → g < length lists → (c : ℕ) × (k g c ≡ true)

  abbrev pub Single : List ℕ → Type 0
  Single x = (g : ℕ) → g < length lists → (k g (slice_index_or x g 64) ≡ true) × ((c : ℕ) → k g c ≡ true → c ≡ slice_index_or x g 64)

-- Some group keeps two channels.
abbrev pub Wide : Family → Type 0
Wide k = (g a b : ℕ) × (k g a ≡ true) × (k g b ≡ true) × (a ≢ b)
