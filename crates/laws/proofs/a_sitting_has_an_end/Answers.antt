use Rattle.laws.proofs.Orders.{lawful_on, everywhere_on, fewest_everywhere}
use Rattle.laws.proofs.Total.{sits_exists}
use Rattle.laws.proofs.a_sitting_has_an_end.Goals as goal
use Rattle.std.proofs.Common.{length}

pub returns : goal.returns
returns c = record {
  on_at_most_200 = λ lists book few lawful order lo. sits_exists lists book lawful order (lawful_on order (length lists) lo few);
  on_any_number = sits_exists;
  right_on = λ order n. (everywhere_on order n, lawful_on order n);
  fewest_first = fewest_everywhere;
}
