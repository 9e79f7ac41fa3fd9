-- What an order answers and how its holdings change, as functions of the holdings, and what it must show. Assumes nothing.
use Rattle.std.specs.Prelude.{ℕ, ◌<◌, ◌≤◌, ◌^◌, List, length, Some, None, Option, MatchOption, slice_index}
use Rattle.rules.specs.Channels.{Has}
use Rattle.branching.specs.Channels.{Open}

pub record OrderMeaning (H : Type 0) : Type 0 where
  pub group : H → List ℕ → Option ℕ
  pub grouped : H → List ℕ → H
  pub channel : H → List ℕ → ℕ → Option ℕ
  pub channeled : H → List ℕ → ℕ → H
  pub heard : H → ℕ → H

-- the group keeps two or more where any does, and is absent where none does
abbrev pub Branches : List ℕ → Option ℕ → Type 0
Branches ms a = MatchOption a ((g : ℕ) → Open ms g → ⊥) (λ g. Open ms g)

-- the channel remains in its group, and is absent where none does
abbrev pub Remains : List ℕ → ℕ → Option ℕ → Type 0
Remains ms g a = MatchOption a ((c : ℕ) → Has (slice_index ms g) c → ⊥) (λ c. Has (slice_index ms g) c)

-- What an order is asked about: the domains of at most 200 groups, each a 64-bit word.
pub record Domains (ms : List ℕ) : Type 0 where
  pub few : length ms ≤ 200
  pub words : (g : ℕ) → slice_index ms g < 2 ^ 64

-- What an order must show, of what it is asked about and of no more.
pub record Lawful {H : Type 0} (o : OrderMeaning H) : Type 0 where
  pub branches : (h : H) (ms : List ℕ) → Domains ms → Branches ms (o.group h ms)
  pub remains : (h : H) (ms : List ℕ) (g : ℕ) → Domains ms → Remains ms g (o.channel h ms g)

-- the group and then the channel that an order answers, and what it holds after both questions
abbrev pub paired : ℕ → Option ℕ → Option (ℕ × ℕ)
paired g None = None
paired g (Some c) = Some (g, c)

module _ {H : Type 0} (o : OrderMeaning H) (h : H) (ms : List ℕ) where
  abbrev pub choice_at : Option ℕ → Option (ℕ × ℕ)
  choice_at None = None
  choice_at (Some g) = paired g (o.channel (o.grouped h ms) ms g)

  abbrev pub chosen_at : Option ℕ → H
  chosen_at None = o.grouped h ms
  chosen_at (Some g) = o.channeled (o.grouped h ms) ms g

  abbrev pub choice : Option (ℕ × ℕ)
  choice = choice_at (o.group h ms)

  abbrev pub chosen : H
  chosen = chosen_at (o.group h ms)

-- the choice is a domains channel of a group with two or more, and absent only where no group keeps two
abbrev pub GoodChoice : List ℕ → Option (ℕ × ℕ) → Type 0
GoodChoice ms a = MatchOption a ((g : ℕ) → Open ms g → ⊥) (λ p. Open ms p.0 × Has (slice_index ms p.0) p.1)
