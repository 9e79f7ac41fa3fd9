use Rattle.std.proofs.Common.{◌-◌}
use Rattle.planner.proofs.Goings.{Along}
use Rattle.planner.proofs.solve.sit_on.Given as goal

abbrev pub invariant-loop-sitting : goal.invariant-loop-sitting
invariant-loop-sitting g l =
    Along g.O.Order.meaning g.P.RestartPolicy.meaning g.O.Order.held g.P.RestartPolicy.held (g.B.RuleBook.meaning l.book) l.lists l.settings l.initial.search l.initial.memory l.initial.order l.initial.policy
    (l.settings.sittings - l._sitting) l.search l.memory l.order l.policy
