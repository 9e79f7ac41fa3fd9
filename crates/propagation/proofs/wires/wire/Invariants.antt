use Rattle.std.proofs.Common.{◌*◌}
use Rattle.propagation.specs.Wires.{Chained}
use Rattle.propagation.proofs.wires.wire.Given as goal

abbrev pub invariant-loop-i : goal.invariant-loop-i
invariant-loop-i g l = Chained (g.B.RuleBook.meaning l.book) (2 * l.i) l.wires
