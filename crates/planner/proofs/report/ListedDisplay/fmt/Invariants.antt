use Rattle.std.proofs.Common.{◌++◌, codes, take}
use Rattle.std.specs.Fmt.{HasWritten, IsPlainFormatter}
use Rattle.std.specs.List.{flat_map}
use Rattle.planner.specs.Accounts.{assigned_text}
use Rattle.planner.proofs.report.ListedDisplay.fmt.Given as goal

-- the assignments that were passed are written
abbrev pub invariant-loop-word : goal.invariant-loop-word
invariant-loop-word g l = IsPlainFormatter l.initial.f → HasWritten g.W.Write.write_str_gives l.initial.f (flat_map (λ w. codes ", " ++ assigned_text w) (take l.word-index l.rest)) l.f
