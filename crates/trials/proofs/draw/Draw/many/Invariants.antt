use Rattle.std.proofs.Common.{◌≡◌, length}
use Rattle.trials.proofs.draw.Draw.many.Given as goal

abbrev pub invariant-loop-thing : goal.invariant-loop-thing
invariant-loop-thing g l = length l.things.items ≡ l._thing
