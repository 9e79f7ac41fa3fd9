use Rattle.model.proofs.Sound.{plan_run}
use Rattle.model.proofs.plan_is_a_plan.Goals as goal

pub returns : goal.returns
returns c lists book lawful same s = plan_run lists book s lawful same
