use Rattle.std.proofs.Common.{◌≡◌}
use Rattle.trials.specs.Heaviest.{heaviest_of}
use Rattle.trials.specs.HeaviestLemmas.{weighed}
use Rattle.trials.proofs.heaviest.HeaviestOrder.group.Given as goal

abbrev pub invariant-loop-g : goal.invariant-loop-g
invariant-loop-g l = (l.best ≡ weighed l.self.weights (heaviest_of l.self.weights l.domains l.g)) × (l.self.weights ≡ l.initial.self.weights)
