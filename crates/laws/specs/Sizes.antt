-- Orders that are right on so many groups, and on any number.
use Rattle.std.specs.Prelude.{◌≡◌, ℕ, ◌<◌, ◌^◌, List, length, slice_index}
use Rattle.branching.specs.Order.{Branches, Remains}
use Rattle.laws.specs.Orders.{Event, Order}

-- Of n domains, each a 64-bit word, which is all that a sitting on n groups asks about: the group keeps two or more channels wherever any does, the channel remains, and each is absent where there is none.
pub record IsLawfulOn (n : ℕ) (o : Order) : Type 0 where
  pub branches : (es : List Event) (ms : List ℕ) → length ms ≡ n → ((h : ℕ) → slice_index ms h < 2 ^ 64) → Branches ms (o.group es ms)
  pub remains : (es : List Event) (ms : List ℕ) (g : ℕ) → length ms ≡ n → ((h : ℕ) → slice_index ms h < 2 ^ 64) → Remains ms g (o.channel es ms g)

-- The same of all lists of numbers, however many and however large.
pub record IsLawfulEverywhere (o : Order) : Type 0 where
  pub branches : (es : List Event) (ms : List ℕ) → Branches ms (o.group es ms)
  pub remains : (es : List Event) (ms : List ℕ) (g : ℕ) → Remains ms g (o.channel es ms g)
