use Rattle.std.proofs.Common.{ap}
use Rattle.std.proofs.lemmas.Result.{MatchResult-at_ok}
use Rattle.programs.proofs.Writings.{more_written, still_written, front_written, front_still_written, so_far_written}
use Rattle.programs.proofs.output.write.Goals as goal
use Rattle.programs.proofs.output.write.Goals.{in-Ok, in-Err}

pub returns-in-Ok-eq0-clause-failed : goal.returns-in-Ok-eq0-clause-failed
returns-in-Ok-eq0-clause-failed g c = front_still_written _ _ _ _ _ c.loop.invariant _ c.in-Ok-eq0.field-0-test (MatchResult-at_ok _ _ _ c.in-Ok-eq0.is c.write.ensures.bytes)

pub returns-in-Err-2-clause-failed : goal.returns-in-Err-2-clause-failed
returns-in-Err-2-clause-failed g c = front_written _ _ _ _ _ c.loop.invariant c.in-Err-2.ensures.bytes

pub loop-preserved : goal.loop-preserved
loop-preserved g c = elim c.match-write.branch [
  | in-Ok w ↦ more_written _ _ _ _ _ c.loop.invariant w.in-Ok.n _ (ap (λ r. r.now) w.left-is) w.in-Ok.ensures.bytes
  | in-Err w ↦ still_written _ _ _ _ _ c.loop.invariant _ (ap (λ r. r.now) w.left-is) w.in-Err.ensures.bytes
]

pub returns-clause-failed : goal.returns-clause-failed
returns-clause-failed g c = so_far_written _ _ _ _ c.loop.invariant
