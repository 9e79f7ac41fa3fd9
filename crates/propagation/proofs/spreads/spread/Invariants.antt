use Rattle.propagation.specs.Spreads.{SpreadsBelow}
use Rattle.propagation.proofs.spreads.spread.Given as goal

abbrev pub invariant-loop-i : goal.invariant-loop-i
invariant-loop-i g l = SpreadsBelow (g.B.RuleBook.meaning l.book) l.i l.spreads
