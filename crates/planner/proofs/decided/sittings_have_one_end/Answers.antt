use Rattle.planner.proofs.Once.{one_end}
use Rattle.planner.proofs.decided.sittings_have_one_end.Goals as goal

pub returns : goal.returns
returns g c = one_end g.O.Order.meaning g.P.RestartPolicy.meaning
