use Rattle.std.proofs.Common.{take}
use Rattle.propagation.specs.Links.{Linked}
use Rattle.search.specs.Regions.{SameRegions}
use Rattle.search.specs.Families.{Remembers}
use Rattle.search.specs.Sittings.{lent_in}
use Rattle.search.proofs.Along.{Along}
use Rattle.search.proofs.calls.sit.Given as goal

abbrev pub invariant-moves : goal.invariant-moves
invariant-moves g l =
    Along g.O.Order.meaning g.P.RestartPolicy.meaning g.O.Order.held g.P.RestartPolicy.held (g.B.RuleBook.meaning l.book) l.lists l.allowance l.initial.at
    (lent_in l.initial.regions l.initial.order l.initial.policy) l.left l.at (lent_in l.regions l.order l.policy)
    × SameRegions l.initial.regions l.regions × Linked (g.B.RuleBook.meaning l.book) (take l.at.base_used l.regions.base.now) l.links
    × Remembers (l.lists) (g.B.RuleBook.meaning l.book) l.at l.regions.branch.now l.regions.base.now l.regions.domains.now l.befores

abbrev pub decreases-moves : goal.decreases-moves
decreases-moves g l = l.left
