use Rattle.std.proofs.Common.{ℕ, ◌<◌, length, get_or}
use Rattle.model.specs.Words.{decision}
use Rattle.model.specs.Remains.{Family, family, Obeys}
use Rattle.propagation.specs.Supports.{Inside}
use Rattle.propagation.proofs.start.decide_all.Given as goal

abbrev pub invariant-loop-word : goal.invariant-loop-word
invariant-loop-word l = Inside (family l.domains) (family l.initial.domains)
    × ((i : ℕ) → i < l.word-index → Obeys (family l.domains) (decision (get_or l.branch i 0)))
    × ((k : Family) → ((i : ℕ) → i < length l.branch → Obeys k (decision (get_or l.branch i 0))) → Inside k (family l.initial.domains) → Inside k (family l.domains))
