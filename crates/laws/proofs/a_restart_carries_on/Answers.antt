use Rattle.laws.proofs.Runs.{restart_continues}
use Rattle.laws.proofs.a_restart_carries_on.Goals as goal

pub returns : goal.returns
returns c = restart_continues
