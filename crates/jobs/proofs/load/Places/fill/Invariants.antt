use Rattle.std.proofs.Common.{◌≡◌, ℕ, ◌-◌, length}
use Rattle.jobs.specs.Jobs.{lent, room}
use Rattle.jobs.proofs.Fills.{Filling}
use Rattle.jobs.proofs.load.Places.fill.Given as goal

abbrev pub invariant-loop-item : goal.invariant-loop-item
invariant-loop-item l =
    let p = lent l.fn.self.lists.now l.fn.self.gaps.now l.fn.self.tables.now in
    record {
      job : l.reader.job.now ≡ l.job;
      room : l.reader.room ≡ room p;
      lists : l.self.lists.ghost_name ≡ l.fn.self.lists.ghost_name;
      gaps : l.self.gaps.ghost_name ≡ l.fn.self.gaps.ghost_name;
      tables : l.self.tables.ghost_name ≡ l.fn.self.tables.ghost_name;
      filling : (i : ℕ) × Filling l.job p (lent l.self.lists.now l.self.gaps.now l.self.tables.now) i l.reader.seen;
    }

abbrev pub decreases-loop-item : goal.decreases-loop-item
decreases-loop-item l = length l.job - l.reader.seen.at
