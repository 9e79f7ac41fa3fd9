use Rattle.model.proofs.Shut.{run_keeps}
use Rattle.model.proofs.shut_out_stays.Goals as goal

pub returns : goal.returns
returns c lists book room lawful same s from t run x = run_keeps lists book room x s t run
