-- What remains, in the meaning of a rule book.
use Rattle.std.specs.Prelude.{◌≡◌, ℕ, ◌<◌, false, List, length}
use Rattle.rules.specs.Meanings.{Meaning}
use Rattle.model.specs.Decisions.{Decision}
use Rattle.model.specs.Remains.{Family, family, Meets, Remains, Dead, Alive}

-- The masks are the largest family, and every group keeps something.
pub record Lives (lists : List ℕ) (m : Meaning) (base : List (List ℕ)) (branch : List Decision) (ms : List ℕ) : Type 0 where
  pub remains : Remains lists m base branch (family ms)
  pub alive : Alive lists (family ms)

-- Some group keeps nothing in any family that meets the conditions, so in the largest too.
abbrev pub Doomed : List ℕ → Meaning → List (List ℕ) → List Decision → Type 0
Doomed lists m base branch = (g : ℕ) × (g < length lists) × ((k : Family) → Meets lists m base branch k → (c : ℕ) → k g c ≡ false)

-- The largest family has a group that keeps nothing.
abbrev pub Dies : List ℕ → Meaning → List (List ℕ) → List Decision → Type 0
Dies lists m base branch = (k : Family) × Remains lists m base branch k × Dead lists k
