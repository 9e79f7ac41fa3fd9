-- The rule ends that wait: in their line, each once, and marked.
use Rattle.std.specs.Prelude.{◌≡◌, ℕ, ◌+◌, ◌*◌, ◌/◌, ◌%◌, ◌<◌, ◌≤◌, Bool, true, false, ◌||◌, List, [], ◌∷◌, length, ◌==◌, slice_index}
use Rattle.std.specs.Coded.{×_prop, Unit-prop}
use Rattle.std.proofs.Props.{props}
use Rattle.rules.specs.Channels.{has}
use Rattle.propagation.specs.declared.records.RuleEnd.{RuleEnd}

abbrev pub one_if : Bool → ℕ
one_if true = 1
one_if false = 0

-- The number of a rule end.
abbrev pub at_end : ℕ → Bool → ℕ
at_end i s = 2 * i + one_if s

abbrev pub place : RuleEnd → ℕ
place r = at_end r.rule r.second

-- The end numbered e waits in the line.
abbrev pub waits : List RuleEnd → ℕ → Bool
waits [] e = false
waits (r ∷ q) e = place r == e || waits q e

-- It is marked.
abbrev pub marked : List ℕ → ℕ → Bool
marked marks e = has (slice_index marks (e / 32)) (e % 32)

-- No end waits twice.
abbrev pub Once : List RuleEnd → Type 0
Once [] = Unit {0}
Once (r ∷ q) = (waits q (place r) ≡ false) × Once q

pub Once-prop : (q : List RuleEnd) → IsProp (Once q)
Once-prop [] = Unit-prop
Once-prop (r ∷ q) = ×_prop (Prim.hlevel props) (Once-prop q)

-- A line of ends of the first `rules` rules, with its marks.
pub record Line (rules : ℕ) (q : List RuleEnd) (marks : List ℕ) : Type 0 where
  pub same : (e : ℕ) → waits q e ≡ marked marks e
  pub once : Once q
  pub below : (e : ℕ) → waits q e ≡ true → e < 2 * rules

-- What a line with its marks has space for.
pub record Space (rules places : ℕ) (marks : List ℕ) : Type 0 where
  pub few : rules ≤ 4096
  pub room : 2 * rules ≤ places
  pub words : length marks ≡ 256
