use Rattle.std.proofs.Common.{◌≤◌, length}
use Rattle.trials.proofs.job.ends_early.Given as goal

abbrev pub invariant-loop-kind : goal.invariant-loop-kind
invariant-loop-kind l = length l.rest ≤ length l.bytes

abbrev pub decreases-loop-kind : goal.decreases-loop-kind
decreases-loop-kind l = length l.rest
