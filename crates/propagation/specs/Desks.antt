-- What lies on the desk while channels are taken away.
use Rattle.std.specs.Prelude.{◌≡◌, ℕ, ◌<◌, ◌≤◌, Bool, true, false, ◌⊎◌, List, [], length, sum}
use Rattle.std.specs.List.{AllByRecursion}
use Rattle.rules.specs.Meanings.{Meaning}
use Rattle.model.specs.Remains.{family, Only, Alive}
use Rattle.model.specs.Words.{base_of}
use Rattle.propagation.specs.declared.desk.Desk.{Desk}
use Rattle.propagation.specs.Waiting.{queued, size}
use Rattle.propagation.specs.Waits.{waits, at_end}
use Rattle.propagation.specs.Lines.{SameLine}
use Rattle.propagation.specs.Supports.{Supported, Inside}
use Rattle.propagation.specs.Wires.{Wired}
use Rattle.propagation.specs.Spreads.{Spreads}
use Rattle.propagation.specs.Settling.{noted, Settled}
use Rattle.propagation.specs.Bases.{Grouped}
use Rattle.propagation.specs.Indexed.{Knows}

-- The later desk has the book, the chains, the base, the index and the regions of the earlier one.
pub record SameDesk {B : Type 0} (d d' : Desk B) : Type 0 where
  pub book : d'.book ≡ d.book
  pub wires : d'.wires ≡ d.wires
  pub spreads : d'.spreads ≡ d.spreads
  pub base : d'.base ≡ d.base
  pub index : d'.index ≡ d.index
  pub domains : d'.domains.ghost_name ≡ d.domains.ghost_name
  pub groups : length d'.domains.now ≡ length d.domains.now
  pub line : SameLine d.line d'.line
  pub settled : d'.settled.places.ghost_name ≡ d.settled.places.ghost_name
  pub slots : size d'.settled ≡ size d.settled

-- The desk fits its book.
pub record Fitted {B : Type 0} (m : Meaning) (d : Desk B) : Type 0 where
  pub wired : Wired m d.wires.now
  pub spread : Spreads m d.spreads.now
  pub groups : length d.domains.now ≡ m.groups
  pub rules : d.line.rules ≡ m.count
  pub room : length d.domains.now ≤ size d.settled

-- The base can be walked: its nogoods are of groups of the book, and the index knows it.
pub record Based {B : Type 0} (m : Meaning) (d : Desk B) : Type 0 where
  pub grouped : AllByRecursion (Grouped m.groups) (base_of d.base.now)
  pub known : Knows d.base.now d.index.now

-- No group keeps a channel above 63.
abbrev pub Small : List ℕ → Type 0
Small masks = (g c : ℕ) → family masks g c ≡ true → c < 64

-- The desk is in order.
pub record Held {B : Type 0} (m : Meaning) (d : Desk B) : Type 0 where
  pub fits : Fitted m d
  pub settled : Settled d.domains.now (queued d.settled)
  pub alive : Alive d.domains.now (family d.domains.now)
  pub small : Small d.domains.now

-- Channels were taken away, and what that calls for was put in line: an end that does not wait waited not before and is supported if it was,
-- and an assignment that does not wait waited not before and is not newly the last of its group.
pub record Step {B : Type 0} (m : Meaning) (d d' : Desk B) : Type 0 where
  pub inside : Inside (family d'.domains.now) (family d.domains.now)
  pub ends : (i : ℕ) (s : Bool) → waits (queued d'.line.ends) (at_end i s) ≡ false → (waits (queued d.line.ends) (at_end i s) ≡ false) × (Supported m (family d.domains.now) i s → Supported m (family d'.domains.now) i s)
  pub assignments : (v : ℕ) → noted (queued d'.settled) v ≡ false → (noted (queued d.settled) v ≡ false) × (Only (family d'.domains.now) v → Only (family d.domains.now) v)
  pub falls : ((d'.domains.now ≡ d.domains.now) × (queued d'.line.ends ≡ queued d.line.ends) × (queued d'.settled ≡ queued d.settled)) ⊎ (sum d'.domains.now < sum d.domains.now)

-- The desk is laid out: nothing waits.
pub record Laid {B : Type 0} (m : Meaning) (d : Desk B) : Type 0 where
  pub fits : Fitted m d
  pub based : Based m d
  pub no_ends : queued d.line.ends ≡ []
  pub no_settled : queued d.settled ≡ []
