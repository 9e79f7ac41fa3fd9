use Rattle.jobs.proofs.Trips.{round}
use Rattle.jobs.proofs.write.write_job.Goals as goal

pub returns-in_err-vet-clause-back : goal.returns-in_err-vet-clause-back
returns-in_err-vet-clause-back c = round

pub returns-in_err-add_job-clause-back : goal.returns-in_err-add_job-clause-back
returns-in_err-add_job-clause-back c = round

pub returns-clause-back : goal.returns-clause-back
returns-clause-back c = round
