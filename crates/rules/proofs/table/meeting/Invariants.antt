use Rattle.rules.specs.Tables.{Meets}
use Rattle.rules.proofs.Taking.{Keeping}
use Rattle.rules.proofs.table.meeting.Given as goal

abbrev pub invariant-loop-a : goal.invariant-loop-a
invariant-loop-a l = Keeping (Meets l.job l.offset l.across) l.set l.rest l.a-iterator.0
