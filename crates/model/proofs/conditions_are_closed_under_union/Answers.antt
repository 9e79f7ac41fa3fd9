use Rattle.model.proofs.Largest.{united_meets}
use Rattle.model.proofs.conditions_are_closed_under_union.Goals as goal

pub returns : goal.returns
returns c lists book base branch k l p q = united_meets lists book base branch k l p q
