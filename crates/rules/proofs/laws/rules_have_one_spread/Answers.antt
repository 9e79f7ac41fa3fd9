use Rattle.rules.proofs.Spreading.{one_spread}
use Rattle.rules.proofs.laws.rules_have_one_spread.Goals as goal

pub returns : goal.returns
returns c = one_spread
