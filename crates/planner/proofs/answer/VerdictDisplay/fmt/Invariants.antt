use Rattle.std.proofs.Common.{take}
use Rattle.std.specs.Fmt.{HasWritten, IsPlainFormatter}
use Rattle.planner.specs.Accounts.{plan_text}
use Rattle.planner.proofs.answer.VerdictDisplay.fmt.Given as goal

-- the lines of the groups that were passed are written
abbrev pub invariant-loop-group : goal.invariant-loop-group
invariant-loop-group g l = IsPlainFormatter l.initial.f → HasWritten g.W.Write.write_str_gives l.initial.f (plan_text 0 (take l.group-counter l.channel-items)) l.f
