use Rattle.laws.proofs.Jobs.{jobs}
use Rattle.laws.proofs.jobs_are_worked.Goals as goal

pub returns : goal.returns
returns c = jobs
