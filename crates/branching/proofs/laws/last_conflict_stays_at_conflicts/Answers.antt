use Rattle.branching.proofs.Conflicts.{last_conflict_law}
use Rattle.branching.proofs.laws.last_conflict_stays_at_conflicts.Goals as goal

pub returns : goal.returns
returns g c = last_conflict_law g.O.Order.meaning
