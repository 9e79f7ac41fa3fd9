use Rattle.std.proofs.Common.{◌≡◌, ℕ, ◌-◌, length}
use Rattle.jobs.proofs.Steps.{Reached}
use Rattle.jobs.proofs.load.survey.Given as goal

abbrev pub invariant-loop : goal.invariant-loop
invariant-loop l = record {
  job : l.reader.job.now ≡ l.job;
  room : l.reader.room ≡ l.fn.room;
  reached : (i : ℕ) × Reached l.job l.fn.room i l.reader.seen;
}

abbrev pub decreases-loop : goal.decreases-loop
decreases-loop l = length l.job - l.reader.seen.at
