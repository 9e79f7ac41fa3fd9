use Rattle.propagation.proofs.Chaining.{nones}
use Rattle.search.proofs.befores.Befores.clear.Goals as goal

pub returns-clause-none : goal.returns-clause-none
returns-clause-none c = nones 200
