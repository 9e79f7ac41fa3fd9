use Rattle.laws.proofs.Orders.{lawful_on}
use Rattle.laws.proofs.Sittings.{sits_reach}
use Rattle.laws.proofs.a_sitting_makes_moves.Goals as goal
use Rattle.std.proofs.Common.{length}

pub returns : goal.returns
returns c = record {
  on_at_most_200 = λ lists book few order policy room lo. sits_reach lists book order policy room (lawful_on order (length lists) lo few);
  on_any_number = sits_reach;
}
