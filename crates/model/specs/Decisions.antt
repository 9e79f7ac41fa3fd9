-- The branch, nogoods, and what closing does to a branch.
-- A branch is held newest decision first, so that each rule below goes by the newest decision.
use Rattle.std.specs.Prelude.{ℕ, ◌≢◌, List, [], ◌∷◌, ◌++◌}
use Rattle.rules.specs.Plans.{Listed}
use Rattle.model.specs.Masks.{grp, chan}
use Rattle.std.specs.List.{AllByRecursion}

-- An assignment, as its word, taken or refused.
pub data Decision : Type 0 where
  taken : ℕ → Decision
  refused : ℕ → Decision

abbrev pub word : Decision → ℕ
word (taken w) = w
word (refused w) = w

-- The assignments taken on the branch, oldest first.
abbrev pub takens : List Decision → List ℕ
takens [] = []
takens (taken w ∷ ds) = takens ds ++ w ∷ []
takens (refused w ∷ ds) = takens ds

-- The reduced nogood of each refusal, oldest first: the assignments taken before it, and itself.
abbrev pub reduced : List Decision → List (List ℕ)
reduced [] = []
reduced (taken w ∷ ds) = reduced ds
reduced (refused w ∷ ds) = reduced ds ++ (takens ds ++ w ∷ []) ∷ []

-- All decisions after the last taken one go, and that one becomes refused.
abbrev pub closed : List Decision → List Decision
closed [] = []
closed (taken w ∷ ds) = refused w ∷ ds
closed (refused w ∷ ds) = closed ds

-- The assignment w is not on the branch, and its group is not taken there.
abbrev pub Free : ℕ → List Decision → Type 0
Free w [] = Unit {0}
Free w (taken v ∷ ds) = (grp v ≢ grp w) × Free w ds
Free w (refused v ∷ ds) = (v ≢ w) × Free w ds

module _ (lists : List ℕ) where
  abbrev pub Assignment : ℕ → Type 0
  Assignment w = Listed lists (grp w) (chan w)

  -- Listed assignments, none twice, and none of a group taken before.
  abbrev pub Branch : List Decision → Type 0
  Branch [] = Unit {0}
  Branch (d ∷ ds) = Assignment (word d) × Free (word d) ds × Branch ds

-- No two assignments of one group.
abbrev pub Apart : List ℕ → Type 0
Apart [] = Unit {0}
Apart (w ∷ ws) = AllByRecursion (λ v. grp w ≢ grp v) ws × Apart ws

-- A nogood: one or more listed assignments, at most one a group.
pub record Nogood (lists : List ℕ) (assignments : List ℕ) : Type 0 where
  pub some : assignments ≢ []
  pub listed : AllByRecursion (Assignment lists) assignments
  pub apart : Apart assignments
