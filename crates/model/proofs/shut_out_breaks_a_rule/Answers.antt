use Rattle.model.proofs.Sound.{sound_run}
use Rattle.model.proofs.shut_out_breaks_a_rule.Goals as goal

pub returns : goal.returns
returns c lists book room lawful same s run x full = sound_run lists book room lawful same x full s run
