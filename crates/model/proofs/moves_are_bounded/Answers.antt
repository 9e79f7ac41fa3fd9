use Rattle.model.proofs.Moves.{moves_run}
use Rattle.model.proofs.moves_are_bounded.Goals as goal

pub returns : goal.returns
returns c lists book room lawful same s run = moves_run lists book room s run
