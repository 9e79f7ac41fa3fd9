use Rattle.std.proofs.Common.{length}
use Rattle.trials.proofs.exhaustive.+complete.Given as goal

abbrev pub decreases-complete : goal.decreases-complete
decreases-complete l = length l.left.now
