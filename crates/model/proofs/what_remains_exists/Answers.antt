use Rattle.model.proofs.Largest.{filtered, filtered_remains}
use Rattle.model.proofs.what_remains_exists.Goals as goal

pub returns : goal.returns
returns c lists book lawful base branch = (filtered lists book base branch, filtered_remains lists book base branch lawful)
