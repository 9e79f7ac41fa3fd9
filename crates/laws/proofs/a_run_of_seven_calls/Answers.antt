use Rattle.laws.proofs.Seven.{seven_calls}
use Rattle.laws.proofs.a_run_of_seven_calls.Goals as goal

pub returns : goal.returns
returns c = seven_calls
