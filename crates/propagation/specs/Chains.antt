-- Numbers in chains by their keys.
use Rattle.std.specs.Prelude.{ℕ, ◌<◌, ◌≤◌, List, Option, None, slice_index_or, IfSome, IsSomeAnd}

-- What a list of links says at a place: a number, or that there is none.
abbrev pub link : List (Option ℕ) → ℕ → Option ℕ
link links i = slice_index_or links i None

-- For each key its highest number, and for each number the next lower one of its key. So a chain goes strictly down and misses nothing.
pub record Chains (R : ℕ → ℕ → Type 0) (top below : ℕ → Option ℕ) : Type 0 where
  pub last : (v p : ℕ) → R v p → IsSomeAnd (top v) (λ e. p ≤ e)
  pub head : (v : ℕ) → IfSome (top v) (R v)
  pub next : (v p j : ℕ) → R v p → R v j → j < p → IsSomeAnd (below p) (λ e. j ≤ e)
  pub down : (v p : ℕ) → R v p → IfSome (below p) (λ e. (e < p) × R v e)

-- Of the numbers those below k.
abbrev pub Below : (ℕ → ℕ → Type 0) → ℕ → ℕ → ℕ → Type 0
Below R k v p = R v p × (p < k)
