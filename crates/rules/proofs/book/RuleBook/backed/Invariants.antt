use Rattle.rules.specs.Supports.{Backed}
use Rattle.rules.proofs.Taking.{Keeping}
use Rattle.rules.proofs.book.RuleBook.backed.Given as goal

abbrev pub invariant-loop-a : goal.invariant-loop-a
invariant-loop-a g l = Keeping (Backed (g.Self.RuleBook.meaning l.self) l.i l.second l.across) l.set l.rest l.a-iterator.0
