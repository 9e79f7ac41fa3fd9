use Rattle.model.proofs.Sound.{none_run}
use Rattle.model.proofs.none_means_no_plan.Goals as goal

pub returns : goal.returns
returns c lists book room lawful same s run = none_run lists book room lawful same s run
