use Rattle.std.proofs.Common.{rules}
use Rattle.jobs.proofs.Trips.{job_is}
use Rattle.jobs.proofs.write.add_job.Goals as goal

pub returns : goal.returns
returns c = search (rules, job_is)
