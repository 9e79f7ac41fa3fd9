-- What an order and a restart policy answer in the course of one call, whatever they hold.
use Rattle.std.specs.Prelude.{ℕ, zero, suc, ◌≤◌, List, [], ◌∷◌, Option}
use Rattle.branching.specs.Order.{OrderMeaning, Branches, Remains, Domains}
use Rattle.branching.specs.Policy.{PolicyMeaning}

-- An order is asked for a group of what remains, asked for a channel of a group, and told the group of a closing.
pub data Event : Type 0 where
  asked : List ℕ → Event
  channel_asked : List ℕ → ℕ → Event
  told : ℕ → Event

-- An order by its answers after the events of the call so far, newest first.
pub record Order : Type 0 where
  pub group : List Event → List ℕ → Option ℕ
  pub channel : List Event → List ℕ → ℕ → Option ℕ

-- Of at most 200 domains, each a 64-bit word: the group keeps two or more channels wherever any does, the channel remains, and each is absent where there is none.
pub record IsLawfulOrder (o : Order) : Type 0 where
  pub branches : (es : List Event) (ms : List ℕ) → Domains ms → Branches ms (o.group es ms)
  pub remains : (es : List Event) (ms : List ℕ) (g : ℕ) → Domains ms → Remains ms g (o.channel es ms g)

-- A policy by its cutoff after so many restarts of the call.
pub record Policy : Type 0 where
  pub cutoff : ℕ → ℕ

abbrev pub IsLawfulPolicy : Policy → Type 0
IsLawfulPolicy p = (n : ℕ) → 1 ≤ p.cutoff n

-- What an order that held h at the call's start holds after the events, and what it answers.
module _ {H : Type 0} (o : OrderMeaning H) (h : H) where
  abbrev pub held_after : List Event → H
  held_after [] = h
  held_after (asked ms ∷ es) = o.grouped (held_after es) ms
  held_after (channel_asked ms g ∷ es) = o.channeled (held_after es) ms g
  held_after (told g ∷ es) = o.heard (held_after es) g

  abbrev pub behaviour : Order
  behaviour = record { group = λ es ms. o.group (held_after es) ms; channel = λ es ms g. o.channel (held_after es) ms g }

-- What a policy that held h at the call's start holds after n restarts, and its cutoffs.
module _ {H : Type 0} (p : PolicyMeaning H) (h : H) where
  abbrev pub moved_on : ℕ → H
  moved_on zero = h
  moved_on (suc n) = p.next (moved_on n)

  abbrev pub cutoffs : Policy
  cutoffs = record { cutoff = λ n. p.cutoff (moved_on n) }
