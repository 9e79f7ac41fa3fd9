-- What the words of a branch say.
use Rattle.std.specs.Prelude.{ℕ, ◌-◌, ◌<◌, ◌≤◌, List, [], ◌∷◌, ◌++◌, length, slice_index, slice_index_or}
use Rattle.model.specs.Decisions.{takens}
use Rattle.model.specs.Words.{branch_of}

-- The last decision taken among the first n words stands at j.
pub record LastTaken (ws : List ℕ) (n j : ℕ) : Type 0 where
  pub within : j < n
  pub taken : slice_index_or ws j 0 < 65536
  pub after : (i : ℕ) → j < i → i < n → 65536 ≤ slice_index ws i

-- The reduced nogood of the refusal at i: the assignments taken before it, and its own.
abbrev pub nogood_at : List ℕ → ℕ → List ℕ
nogood_at ws i = takens (branch_of ws i) ++ (slice_index ws i - 65536) ∷ []

-- The reduced nogood of an assignment refused on the branch that the words stand for.
abbrev pub nogood_of : List ℕ → ℕ → List ℕ
nogood_of ws refused = takens (branch_of ws (length ws)) ++ refused ∷ []
