use Rattle.model.proofs.Remains.{remains_one}
use Rattle.model.proofs.what_remains_is_one.Goals as goal

pub returns : goal.returns
returns c = remains_one
