use Rattle.visits.proofs.Once.{one_end}
use Rattle.visits.proofs.decided.visits_have_one_end.Goals as goal

pub returns : goal.returns
returns g c = one_end g.O.Order.meaning g.P.RestartPolicy.meaning g.O.Order.held g.P.RestartPolicy.held
