-- What remained before decisions of the branch, as it is kept for their groups.
use Rattle.std.specs.Prelude.{◌≡◌, ℕ, ◌<◌, true, List, [], length, take, Some, None, Option, slice_index_or}
use Rattle.rules.specs.Meanings.{Meaning}
use Rattle.model.specs.Words.{branch_of, base_of}
use Rattle.propagation.specs.Filtered.{Lives}
use Rattle.search.specs.declared.held.Progress.{Progress}
use Rattle.search.specs.declared.befores.Befores.{Befores}
use Rattle.search.specs.Turns.{Fresh}

-- Where the decision of group g stands for which a family is kept, and the first n words of that.
abbrev pub place : Befores → ℕ → Option ℕ
place b g = slice_index_or b.places g None

abbrev pub kept : ℕ → Befores → ℕ → List ℕ
kept n b g = take n (slice_index_or b.families g [])

-- Each family that is kept is what remains before the decision at its place.
abbrev pub Keeps : List ℕ → Meaning → Progress → List ℕ → List ℕ → Befores → Type 0
Keeps lists book p branch base b =
    (g q : ℕ) → g < 200 → place b g ≡ Some q → (q < p.branch_len) × Lives lists book (base_of (take p.base_used base)) (branch_of branch q) (kept (length lists) b g)

-- Where the domains are said to be ready, they are what remains before the newest decision.
pub record Remembers (lists : List ℕ) (book : Meaning) (p : Progress) (branch base domains : List ℕ) (b : Befores) : Type 0 where
  pub keeps : Keeps lists book p branch base b
  pub fresh : b.ready ≡ true → Fresh lists book p branch base domains
