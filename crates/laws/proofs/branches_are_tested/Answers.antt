use Rattle.laws.proofs.Words.{is_branch, branch_is}
use Rattle.laws.proofs.branches_are_tested.Goals as goal

pub returns : goal.returns
returns c lists ds = (is_branch lists ds, branch_is lists ds)
