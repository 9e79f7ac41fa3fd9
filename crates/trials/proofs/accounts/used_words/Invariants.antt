use Rattle.std.proofs.Common.{◌≤◌, length}
use Rattle.trials.proofs.accounts.used_words.Given as goal

abbrev pub invariant-loop-count : goal.invariant-loop-count
invariant-loop-count l = length l.rest ≤ length l.base

abbrev pub decreases-loop-count : goal.decreases-loop-count
decreases-loop-count l = length l.rest
