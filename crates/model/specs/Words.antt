-- The branch and the base as words.
use Rattle.std.specs.Prelude.{ℕ, zero, suc, ◌-◌, cond, List, [], ◌∷◌, ◌++◌, length, take, drop, nat_lt, slice_index}
use Rattle.model.specs.Decisions.{Decision, taken, refused}

-- A refused assignment has 65,536 added.
abbrev pub decision : ℕ → Decision
decision w = cond (nat_lt w 65536) (taken w) (refused (w - 65536))

-- The branch that the first n words stand for: the last of them is its newest decision.
abbrev pub branch_of : List ℕ → ℕ → List Decision
branch_of ws zero = []
branch_of ws (suc n) = decision (slice_index ws n) ∷ branch_of ws n

-- The base that holds nogoods: for each the number of its assignments, and then their words.
abbrev pub recorded : List (List ℕ) → List ℕ
recorded [] = []
recorded (n ∷ ns) = (length n ∷ n) ++ recorded ns

-- The nogoods that words stand for, at most f of them: a number, and as many assignments. (A number too large takes what there is.)
abbrev pub parted : ℕ → List ℕ → List (List ℕ)
parted zero ws = []
parted (suc f) [] = []
parted (suc f) (w ∷ ws) = take w ws ∷ parted f (drop w ws)

abbrev pub base_of : List ℕ → List (List ℕ)
base_of ws = parted (length ws) ws
