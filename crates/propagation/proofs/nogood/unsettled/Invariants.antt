use Rattle.std.proofs.Common.{ℕ, ◌<◌, get_or}
use Rattle.model.specs.Remains.{family, Only}
use Rattle.propagation.proofs.nogood.unsettled.Given as goal

abbrev pub invariant-loop-v : goal.invariant-loop-v
invariant-loop-v l = (j : ℕ) → j < l.v-index → Only (family l.domains) (get_or l.nogood j 0)
