use Rattle.rules.proofs.Checking.{check_finds_plans}
use Rattle.rules.proofs.laws.checks_find_plans.Goals as goal

pub returns : goal.returns
returns c = check_finds_plans
