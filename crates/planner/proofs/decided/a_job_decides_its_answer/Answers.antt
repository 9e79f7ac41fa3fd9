use Rattle.planner.proofs.Once.{one_answer}
use Rattle.planner.proofs.decided.a_job_decides_its_answer.Goals as goal

pub returns : goal.returns
returns g c = one_answer g.O.Order.meaning g.P.RestartPolicy.meaning
