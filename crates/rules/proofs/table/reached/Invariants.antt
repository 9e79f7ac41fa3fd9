use Rattle.rules.proofs.Tabled.{Gathered}
use Rattle.rules.proofs.table.reached.Given as goal

abbrev pub invariant-loop-a : goal.invariant-loop-a
invariant-loop-a l = Gathered l.job l.offset l.across l.all l.a-iterator.0
