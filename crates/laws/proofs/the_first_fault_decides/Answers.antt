use Rattle.laws.proofs.Refusals.{first_is, all_none}
use Rattle.laws.proofs.the_first_fault_decides.Goals as goal

pub returns : goal.returns
returns c checks = (first_is checks, all_none checks)
