use Rattle.std.proofs.Common.{◌≡◌, ◌+◌, ◌++◌, length, take, drop}
use Rattle.model.specs.Decisions.{reduced}
use Rattle.model.specs.Words.{branch_of, recorded}
use Rattle.search.proofs.recording.record_nogoods.Given as goal

abbrev pub invariant-loop-i : goal.invariant-loop-i
invariant-loop-i l =
    (l.at ≡ l.used + length (recorded (reduced (branch_of l.branch l.i))))
    × (l.base ≡ take l.used l.initial.base ++ (recorded (reduced (branch_of l.branch l.i)) ++ drop l.at l.initial.base))
