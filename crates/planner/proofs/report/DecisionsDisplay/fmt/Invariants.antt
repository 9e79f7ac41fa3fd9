use Rattle.std.proofs.Common.{take}
use Rattle.std.specs.Fmt.{HasWritten, IsPlainFormatter}
use Rattle.std.specs.List.{flat_map}
use Rattle.model.specs.Words.{decision}
use Rattle.planner.specs.Accounts.{decided_text}
use Rattle.planner.proofs.report.DecisionsDisplay.fmt.Given as goal

-- the decisions that were passed are written
abbrev pub invariant-loop-word : goal.invariant-loop-word
invariant-loop-word g l = IsPlainFormatter l.initial.f → HasWritten g.W.Write.write_str_gives l.initial.f (flat_map (λ w. decided_text (decision w)) (take l.word-index l.word-items)) l.f
