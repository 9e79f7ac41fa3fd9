use Rattle.laws.proofs.Runs.{plans_are_plans}
use Rattle.laws.proofs.a_plan_needs_no_run.Goals as goal

pub returns : goal.returns
returns c = plans_are_plans
