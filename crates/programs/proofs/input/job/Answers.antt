use Rattle.std.proofs.Common.{ap}
use Rattle.programs.proofs.Readings.{read_of}
use Rattle.programs.proofs.input.job.Goals as goal

pub returns : goal.returns
returns g c = read_of _ (g.R.Read.remaining c.args.input.now) _ _ _ (ap (λ r. g.R.Read.remaining r.now) c.take-longest.ensures.inner) c.take-longest.ensures.limit c.new-job.ensures.items c.in_ok-read_to_end.ensures.bytes
