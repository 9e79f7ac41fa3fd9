use Rattle.laws.proofs.Once.{sits_once}
use Rattle.laws.proofs.a_sitting_has_one_end.Goals as goal

pub returns : goal.returns
returns c = sits_once
