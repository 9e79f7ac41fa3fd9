-- Words of a branch: the groups of their decisions, and families that obey them.
use Rattle.std.specs.Prelude.{ℕ, ◌<◌, List, length, slice_index}
use Rattle.model.specs.Masks.{grp}
use Rattle.model.specs.Decisions.{word}
use Rattle.model.specs.Words.{decision}
use Rattle.model.specs.Remains.{Family, Obeys}

-- The groups of all decisions are below n.
abbrev pub GroupsBelow : ℕ → List ℕ → Type 0
GroupsBelow n branch = (i : ℕ) → i < length branch → grp (word (decision (slice_index branch i))) < n

-- The family obeys all of them.
abbrev pub ObeysAll : List ℕ → Family → Type 0
ObeysAll branch k = (i : ℕ) → i < length branch → Obeys k (decision (slice_index branch i))
