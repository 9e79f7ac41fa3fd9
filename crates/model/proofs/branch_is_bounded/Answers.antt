use Rattle.model.proofs.Formed.{whole_run}
use Rattle.model.proofs.Marked.{branch_few}
use Rattle.model.proofs.branch_is_bounded.Goals as goal

pub returns : goal.returns
returns c lists book room lawful same s run = branch_few lists s.branch (whole_run lists book room s run).branch
