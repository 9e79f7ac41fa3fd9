use Rattle.std.proofs.Common.{rules, arith}
use Rattle.std.proofs.Output.{has_written_append, has_written_of_eq}
use Rattle.planner.proofs.Accounts.{plan_more}
use Rattle.planner.proofs.answer.VerdictDisplay.fmt.Goals as goal

pub loop-group-preserved : goal.loop-group-preserved
loop-group-preserved g c = λ p.
    has_written_of_eq _ _ _ _ _ (plan_more c.deref-channel-items.result.now c.loop-group.group-counter (omega arith)) (has_written_append _ _ _ _ _ _ (c.loop-group.invariant p) (search rules))
