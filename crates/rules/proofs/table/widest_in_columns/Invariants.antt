use Rattle.rules.proofs.Columns.{Lacking}
use Rattle.rules.proofs.table.widest_in_columns.Given as goal

abbrev pub invariant-loop-a : goal.invariant-loop-a
invariant-loop-a l = Lacking l.job l.offset l.a l.so_far l.lacked l.widest
