-- What the work on a desk keeps: nothing is amiss but at what waits.
use Rattle.std.specs.Prelude.{◌≡◌, ℕ, ◌+◌, ◌*◌, ◌<◌, Bool, true, false, List, length, sum}
use Rattle.std.specs.List.{AllByRecursion}
use Rattle.rules.specs.Meanings.{Meaning}
use Rattle.model.specs.Remains.{Family, family, Heeds}
use Rattle.model.specs.Words.{base_of}
use Rattle.propagation.specs.declared.desk.Desk.{Desk}
use Rattle.propagation.specs.declared.records.RuleEnd.{RuleEnd}
use Rattle.propagation.specs.Waiting.{queued}
use Rattle.propagation.specs.Waits.{waits, at_end}
use Rattle.propagation.specs.Supports.{Supported, Inside}
use Rattle.propagation.specs.Desks.{Held}
use Rattle.propagation.specs.Bases.{Good}

-- Every rule end that does not wait is supported.
abbrev pub Calm : Meaning → List ℕ → List RuleEnd → Type 0
Calm m ms q = (i : ℕ) (s : Bool) → waits q (at_end i s) ≡ false → Supported m (family ms) i s

-- The family supports all rule ends and heeds all nogoods.
pub record Agrees (m : Meaning) (base : List (List ℕ)) (k : Family) : Type 0 where
  pub supported : (i : ℕ) (s : Bool) → Supported m k i s
  pub heeds : AllByRecursion (Heeds k) base

-- Nothing is amiss but at what waits.
pub record Going {B : Type 0} (m : Meaning) (d : Desk B) : Type 0 where
  pub calm : Calm m d.domains.now (queued d.line.ends)
  pub good : AllByRecursion (Good d.domains.now (queued d.settled)) (base_of d.base.now)

-- What is left to do: what remains counts for more than all that may wait.
abbrev pub weight : {B : Type 0} → Meaning → Desk B → ℕ
weight m d = sum d.domains.now * (2 * m.count + m.groups + 1) + (length (queued d.line.ends) + length (queued d.settled))

-- One turn, after which more may wait.
pub record Moved {B : Type 0} (m : Meaning) (d d' : Desk B) : Type 0 where
  pub held : Held m d'
  pub going : Going m d'
  pub inside : Inside (family d'.domains.now) (family d.domains.now)
  pub falls : weight m d' < weight m d

-- Nothing waited.
pub record Over {B : Type 0} (m : Meaning) (d d' : Desk B) : Type 0 where
  pub held : Held m d'
  pub same : d'.domains.now ≡ d.domains.now
  pub agrees : Agrees m (base_of d.base.now) (family d'.domains.now)

-- What a turn came to, by whether more may wait.
abbrev pub Turned : {B : Type 0} → Meaning → Desk B → Desk B → Bool → Type 0
Turned m d d' true = Moved m d d'
Turned m d d' false = Over m d d'
