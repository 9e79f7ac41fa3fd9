use Rattle.rules.specs.Supports.{allows}
use Rattle.rules.proofs.Spreading.{Widest}
use Rattle.rules.proofs.book.RuleBook.spread.Given as goal

abbrev pub invariant-loop-a : goal.invariant-loop-a
invariant-loop-a g l = Widest (allows (g.Self.RuleBook.meaning l.self) l.i l.second) l.a l.widest
