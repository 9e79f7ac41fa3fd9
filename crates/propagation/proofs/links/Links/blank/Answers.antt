use Rattle.propagation.proofs.Chaining.{nones, zeros}
use Rattle.propagation.proofs.links.Links.blank.Goals as goal

pub returns-clause-wires : goal.returns-clause-wires
returns-clause-wires c = nones 8392

pub returns-clause-spreads : goal.returns-clause-spreads
returns-clause-spreads c = zeros 200
