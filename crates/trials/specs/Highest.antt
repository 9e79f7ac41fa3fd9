-- The order that answers the highest group with two or more channels, and its highest channel.
use Rattle.std.specs.Prelude.{ℕ, zero, suc, ◌-◌, cond, List, length, Some, None, Option, slice_index}
use Rattle.std.specs.Int.Count.{count_leading_zeros}
use Rattle.branching.specs.Channels.{open?}
use Rattle.branching.specs.Order.{OrderMeaning}

-- the highest of the first n groups that keeps two or more
abbrev pub highest_of : List ℕ → ℕ → Option ℕ
highest_of ms zero = None
highest_of ms (suc i) = cond (open? ms i) (Some i) (highest_of ms i)

-- the highest channel of a set m, which has none from m up
abbrev pub top : ℕ → Option ℕ
top zero = None
top (suc n) = Some (n - count_leading_zeros (suc n) (suc n))

abbrev pub highest_first : OrderMeaning (Unit {0})
highest_first = record {
  group = λ _ ms. highest_of ms (length ms);
  grouped = λ h _. h;
  channel = λ _ ms g. top (slice_index ms g);
  channeled = λ h _ _. h;
  heard = λ h _. h;
}
