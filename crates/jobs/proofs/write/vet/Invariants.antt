use Rattle.std.proofs.Common.{◌≡◌, ℕ, ◌<◌, None}
use Rattle.jobs.specs.Writes.{flaw, nth_item}
use Rattle.jobs.proofs.write.vet.Given as goal

abbrev pub invariant-loop-k : goal.invariant-loop-k
invariant-loop-k l = (j : ℕ) → j < l.k → flaw l.src j (nth_item l.items j) ≡ None
