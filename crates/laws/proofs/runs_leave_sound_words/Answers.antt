use Rattle.laws.proofs.Runs.{undisturbed}
use Rattle.laws.proofs.runs_leave_sound_words.Goals as goal

pub returns : goal.returns
returns c = undisturbed
