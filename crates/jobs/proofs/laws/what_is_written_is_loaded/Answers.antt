use Rattle.jobs.proofs.Trips.{round}
use Rattle.jobs.proofs.laws.what_is_written_is_loaded.Goals as goal

pub returns : goal.returns
returns c = round
