-- Which nogoods of a base have an assignment, as chains of the places where it stands.
use Rattle.std.specs.Prelude.{◌≡◌, ℕ, ◌+◌, ◌<◌, List, ◌∷◌, ◌++◌, length, slice_index}
use Rattle.model.specs.Words.{recorded, base_of}
use Rattle.propagation.specs.declared.index.Index.{Index}
use Rattle.propagation.specs.Chains.{link, Chains, Below}

-- The nogood n of the base starts at the place s of the words that record it: there stands the number of its assignments.
pub record Starts (base : List (List ℕ)) (s : ℕ) (n : List ℕ) : Type 0 where
  pub before : List (List ℕ)
  pub after : List (List ℕ)
  pub parts : base ≡ before ++ n ∷ after
  pub start : s ≡ length (recorded before)

-- The assignment v stands at the place p, in a nogood that starts at s.
pub record Stands (base : List (List ℕ)) (s v p : ℕ) : Type 0 where
  pub nogood : List ℕ
  pub nth : ℕ
  pub starts : Starts base s nogood
  pub there : nth < length nogood
  pub place : p ≡ s + 1 + nth
  pub is : slice_index nogood nth ≡ v

abbrev pub At : List (List ℕ) → ℕ → ℕ → Type 0
At base v p = (s : ℕ) × Stands base s v p

-- The index has the places below k: each in the chain of the assignment that stands there, with the start of its nogood.
pub record Indexed (base : List (List ℕ)) (k : ℕ) (x : Index) : Type 0 where
  pub chains : Chains (Below (At base) k) (link x.heads) (link x.links)
  pub starts : (v p : ℕ) → p < k → At base v p → Stands base (slice_index x.starts p) v p

-- The words record nogoods, and the index has all their places.
pub record Knows (words : List ℕ) (x : Index) : Type 0 where
  pub whole : words ≡ recorded (base_of words)
  pub indexed : Indexed (base_of words) (length words) x
