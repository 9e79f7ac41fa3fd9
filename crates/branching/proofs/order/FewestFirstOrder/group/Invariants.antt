use Rattle.std.proofs.Common.{◌≡◌}
use Rattle.branching.specs.Fewest.{fewest_of}
use Rattle.branching.specs.FewestLemmas.{counted}
use Rattle.branching.proofs.order.FewestFirstOrder.group.Given as goal

abbrev pub invariant-loop-g : goal.invariant-loop-g
invariant-loop-g l = l.best ≡ counted l.domains (fewest_of l.domains l.g)
