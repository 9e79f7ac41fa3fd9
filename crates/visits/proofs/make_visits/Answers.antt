use Rattle.std.proofs.Common.{arith}
use Rattle.visits.proofs.Along.{along_first, found_along, along_open, along_settled, along_last}
use Rattle.visits.proofs.make_visits.Goals as goal

pub loop-visit-init : goal.loop-visit-init
loop-visit-init g c = along_first _ _ _ _ _ _ _ _ _ c.in_ok-search.ensures

pub visit_once-requires : goal.visit_once-requires
visit_once-requires g c = found_along _ _ _ _ _ _ _ _ _ _ _ _ c.loop-visit.invariant

pub returns-in_default : goal.returns-in_default
returns-in_default g c = along_settled _ _ _ _ _ _ _ _ _ _ _ _ c.loop-visit.invariant (omega arith) c.visit-item.result _ _ _ c.visit_once.ensures c.in_default.not-Open

pub loop-visit-preserved : goal.loop-visit-preserved
loop-visit-preserved g c = along_open _ _ _ _ _ _ _ _ _ _ _ _ c.loop-visit.invariant (omega arith) c.visit-item.result _ _ _ c.in-Open.ensures

pub returns : goal.returns
returns g c = along_last _ _ _ _ _ _ _ _ _ _ _ _ c.loop-visit.invariant c.loop-visit-test.false c.loop-visit.auto.visits
