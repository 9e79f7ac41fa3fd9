use Rattle.visits.proofs.Along.{Along}
use Rattle.visits.proofs.make_visits.Given as goal

abbrev pub invariant-loop-visit : goal.invariant-loop-visit
invariant-loop-visit g l =
    Along g.O.Order.meaning g.P.RestartPolicy.meaning g.O.Order.held g.P.RestartPolicy.held (g.B.RuleBook.meaning l.book) l.lists l.initial.regions l.initial.visits
    l.visit-index l.visits l.search l.regions
