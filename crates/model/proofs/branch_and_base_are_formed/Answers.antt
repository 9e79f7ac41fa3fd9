use Rattle.model.proofs.Formed.{whole_run}
use Rattle.model.proofs.branch_and_base_are_formed.Goals as goal

pub returns : goal.returns
returns c lists book room lawful same s run = let h = whole_run lists book room s run in (h.branch, h.base)
