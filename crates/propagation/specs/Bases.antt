-- Nogoods that are heeded.
use Rattle.std.specs.Prelude.{◌≡◌, ℕ, ◌/◌, ◌<◌, false, ◌≢◌, List, length, Option, MatchOption, slice_index}
use Rattle.std.specs.List.{AllByRecursion}
use Rattle.model.specs.Remains.{Family, family, Only, Heeds}
use Rattle.propagation.specs.declared.records.Assignment.{Assignment}
use Rattle.propagation.specs.Settling.{noted}

-- The groups of all assignments are below n.
abbrev pub Grouped : ℕ → List ℕ → Type 0
Grouped n nogood = AllByRecursion (λ v. v / 64 < n) nogood

-- The other assignments' groups keep no channel but theirs.
abbrev pub Forced : Family → List ℕ → ℕ → Type 0
Forced k nogood w = AllByRecursion (λ v. v ≢ w → Only k v) nogood

-- A member of which P holds, or none where it holds of no member.
abbrev pub Finds : (ℕ → Type 0) → List ℕ → Option ℕ → Type 0
Finds P xs found = MatchOption found ((k : ℕ) → k < length xs → P (slice_index xs k) → ⊥) (λ w. (k : ℕ) × (k < length xs) × (w ≡ slice_index xs k) × P w)

-- The nogood is heeded, unless one of its assignments waits as just settled.
abbrev pub Good : List ℕ → List Assignment → List ℕ → Type 0
Good ms s nogood = AllByRecursion (λ v. noted s v ≡ false) nogood → Heeds (family ms) nogood

-- A nogood need not be looked at for an assignment that it does not have.
abbrev pub Spared : ℕ → List ℕ → Type 0
Spared v nogood = AllByRecursion (λ x. x ≢ v) nogood
