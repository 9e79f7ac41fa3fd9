use Rattle.model.proofs.Closings.{closings_run}
use Rattle.model.proofs.closings_are_bounded.Goals as goal

pub returns : goal.returns
returns c lists book room lawful same s run = closings_run lists book room s run
