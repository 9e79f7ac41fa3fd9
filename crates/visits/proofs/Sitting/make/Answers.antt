use Rattle.visits.proofs.Calls.{sat_on, sat_refused}
use Rattle.visits.proofs.Sitting.make.Goals as goal

pub returns-in-Ok : goal.returns-in-Ok
returns-in-Ok g c = sat_on _ _ _ _ _ _ _ _ _ c.requires _ _ _ _ _ c.in-Ok.ensures.same c.in-Ok.sat c.in-Ok.ensures.answers

pub returns-in-Err : goal.returns-in-Err
returns-in-Err g c = sat_refused _ _ _ _ _ _ _ _ _ c.requires _ _ _ _ _ _ _ (g.B.RuleBook.lawful c.args.book.now) c.in-Err.ensures.same c.in-Err.ensures.answers
