use Rattle.laws.proofs.Runs.{sitting_continues}
use Rattle.laws.proofs.a_sitting_carries_on.Goals as goal

pub returns : goal.returns
returns c order lo policy lp lists book lawful = sitting_continues lists book lawful order lo policy lp
