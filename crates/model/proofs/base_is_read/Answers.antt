use Rattle.model.proofs.Bases.{base_recorded}
use Rattle.model.proofs.base_is_read.Goals as goal

pub returns : goal.returns
returns c = base_recorded
