use Rattle.std.proofs.Common.{◌≡◌, ℕ, List, ◌++◌}
use Rattle.std.specs.Fmt.{HasWritten, IsPlainFormatter}
use Rattle.std.specs.List.{flat_map}
use Rattle.model.specs.Words.{base_of}
use Rattle.planner.specs.Accounts.{closed_text}
use Rattle.planner.proofs.report.ClosedDisplay.fmt.Given as goal

-- the nogoods that were passed are written
abbrev pub invariant-loop-count : goal.invariant-loop-count
invariant-loop-count g l = (goal.iterator-loop-count g).can_next l._count-iterator × (goal.iterator-loop-count g).is_finite l._count-iterator
    × ((done : List (List ℕ)) × (base_of l.fn.self.0.now ≡ done ++ base_of l._count-iterator.0.now) × (IsPlainFormatter l.initial.f → HasWritten g.W.Write.write_str_gives l.initial.f (flat_map (λ n. closed_text n) done) l.f))
