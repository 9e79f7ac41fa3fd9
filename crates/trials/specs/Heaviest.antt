-- The order that answers the open group of the greatest weight.
use Rattle.std.specs.Prelude.{ℕ, zero, suc, ◌+◌, Bool, true, cond, ◌&&◌, List, length, min, Some, None, Option, nat_lt, slice_index, slice_set}
use Rattle.branching.specs.Channels.{open?}
use Rattle.branching.specs.Fewest.{lowest}
use Rattle.branching.specs.Order.{OrderMeaning}

-- the group i, after the heaviest open one of those before it
abbrev pub after : List ℕ → List ℕ → ℕ → Option ℕ → Option ℕ
after ws ms i None = cond (open? ms i) (Some i) None
after ws ms i (Some b) = cond (open? ms i && nat_lt (slice_index ws b) (slice_index ws i)) (Some i) (Some b)

-- among the first n groups the open one of the greatest weight, and the lowest such
abbrev pub heaviest_of : List ℕ → List ℕ → ℕ → Option ℕ
heaviest_of ws ms zero = None
heaviest_of ws ms (suc i) = after ws ms i (heaviest_of ws ms i)

-- one more weight for a group, where there is one and as far as it goes
abbrev pub raised : List ℕ → ℕ → List ℕ
raised ws g = slice_set ws g (min (slice_index ws g + 1) 4294967295)

abbrev pub heaviest_first : OrderMeaning (List ℕ)
heaviest_first = record {
  group = λ ws ms. heaviest_of ws ms (length ms);
  grouped = λ ws _. ws;
  channel = λ _ ms g. lowest (slice_index ms g);
  channeled = λ ws _ _. ws;
  heard = raised;
}

-- whether a weight is above that of the best group so far
abbrev pub outweighs : ℕ → Option (ℕ × ℕ) → Bool
outweighs w None = true
outweighs w (Some p) = nat_lt p.1 w
