use Rattle.rules.specs.Channels.{has}
use Rattle.rules.specs.Tables.{row}
use Rattle.rules.proofs.Spreading.{Widest}
use Rattle.rules.proofs.table.widest_in_rows.Given as goal

abbrev pub invariant-loop-a : goal.invariant-loop-a
invariant-loop-a l = Widest (λ a b. has (row l.job l.offset a) b) l.a l.widest
