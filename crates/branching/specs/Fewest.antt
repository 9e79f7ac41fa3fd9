-- Fewest first. Assumes nothing.
use Rattle.std.specs.Prelude.{ℕ, zero, suc, ◌<◌, ◌≤◌, cond, ◌&&◌, List, length, Some, None, Option, MatchOption, nat_lt, slice_index}
use Rattle.std.specs.Int.Count.{count_trailing_zeros}
use Rattle.rules.specs.Channels.{Has}
use Rattle.branching.specs.Channels.{count, Open, open?, Lowest}
use Rattle.branching.specs.Order.{OrderMeaning}

-- g has the least number from two up among the first n groups, and is the lowest such
pub record FewestOf (ms : List ℕ) (n g : ℕ) : Type 0 where
  pub within : g < n
  pub two : Open ms g
  pub least : (j : ℕ) → j < n → Open ms j → count ms g ≤ count ms j
  pub first : (j : ℕ) → j < g → Open ms j → count ms g < count ms j

-- no group has two or more, or the answer is the one with the least number, and the lowest such
abbrev pub FewestAnswer : List ℕ → Option ℕ → Type 0
FewestAnswer ms a = MatchOption a ((j : ℕ) → j < length ms → Open ms j → ⊥) (λ g. FewestOf ms (length ms) g)

-- nothing remains in the group's domain, or the answer is the lowest channel that does
abbrev pub LowestAnswer : List ℕ → ℕ → Option ℕ → Type 0
LowestAnswer ms g a = MatchOption a ((c : ℕ) → Has (slice_index ms g) c → ⊥) (λ c. Lowest (slice_index ms g) c)

-- the group i, after the best b of those before it
abbrev pub after : List ℕ → ℕ → Option ℕ → Option ℕ
after ms i None = cond (open? ms i) (Some i) None
after ms i (Some b) = cond (open? ms i && nat_lt (count ms i) (count ms b)) (Some i) (Some b)

abbrev pub fewest_of : List ℕ → ℕ → Option ℕ
fewest_of ms zero = None
fewest_of ms (suc i) = after ms i (fewest_of ms i)

abbrev pub fewest : List ℕ → Option ℕ
fewest ms = fewest_of ms (length ms)

-- the lowest channel of a set m, which has none from m up
abbrev pub lowest : ℕ → Option ℕ
lowest zero = None
lowest (suc n) = Some (count_trailing_zeros (suc n) (suc n))

abbrev pub fewest_first : OrderMeaning (Unit {0})
fewest_first = record {
  group = λ _ ms. fewest ms;
  grouped = λ h _. h;
  channel = λ _ ms g. lowest (slice_index ms g);
  channeled = λ h _ _. h;
  heard = λ h _. h;
}
