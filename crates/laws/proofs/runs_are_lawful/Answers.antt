use Rattle.laws.proofs.Runs.{law}
use Rattle.laws.proofs.runs_are_lawful.Goals as goal

pub returns : goal.returns
returns c = law
