use Rattle.std.proofs.Common.{refl}
use Rattle.visits.proofs.Calls.{base_written, restart_made, restart_not_made}
use Rattle.visits.proofs.visit_once.Goals as goal

pub returns-in-Ok : goal.returns-in-Ok
returns-in-Ok g c = rw (c.in-Restart.is) (restart_made _ _ _ _ _ _ _ _ _ c.requires _ _ _ (g.B.RuleBook.lawful c.args.book.now) (base_written _ _ c.restart.auto.base) refl c.in-Ok.ensures)

pub returns-in-Err : goal.returns-in-Err
returns-in-Err g c = rw (c.in-Restart.is) (restart_not_made _ _ _ _ _ _ _ _ _ c.requires _ _ _ _ (g.B.RuleBook.lawful c.args.book.now) (base_written _ _ c.restart.auto.base) refl c.in-Err.ensures)
