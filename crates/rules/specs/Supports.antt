-- The ends of a rule, and what supports a channel across it. Assumes nothing.
use Rattle.std.specs.Prelude.{◌≡◌, ℕ, ◌+◌, ◌<◌, ◌≤◌, Bool, true, false, ◌||◌, None}
use Rattle.rules.specs.Meanings.{Meaning}
use Rattle.rules.specs.Channels.{has}

-- The group at an end of a rule, and the one across.
abbrev pub near : Bool → ℕ × ℕ → ℕ
near false e = e.0
near true e = e.1

abbrev pub far : Bool → ℕ × ℕ → ℕ
far false e = e.1
far true e = e.0

-- Rule i permits a at this end with b across.
abbrev pub allows : Meaning → ℕ → Bool → ℕ → ℕ → Bool
allows m i false a b = m.permits i a b
allows m i true a b = m.permits i b a

-- Some channel of the set across goes with a.
abbrev pub Backed : Meaning → ℕ → Bool → ℕ → ℕ → Type 0
Backed m i s across a = (b : ℕ) × (has across b ≡ true) × (allows m i s a b ≡ true)

-- The channels of a set that are backed from across.
pub record Kept (m : Meaning) (i : ℕ) (s : Bool) (set across kept : ℕ) : Type 0 where
  pub inside : (j : ℕ) → has kept j ≡ true → has set j ≡ true
  pub backed : (j : ℕ) → has kept j ≡ true → Backed m i s across j
  pub all : (j : ℕ) → has set j ≡ true → Backed m i s across j → has kept j ≡ true

-- Of two channels across that are w or more apart, each channel at this end goes with one, by a test of the two ends.
abbrev pub Serves : (ℕ → ℕ → Bool) → ℕ → Type 0
Serves goes w = (a b c : ℕ) → a < 64 → b + w ≤ c → c < 64 → (goes a b || goes a c) ≡ true

-- The least distance with which that is so.
pub record Least (goes : ℕ → ℕ → Bool) (w : ℕ) : Type 0 where
  pub serves : Serves goes w
  pub least : (v : ℕ) → Serves goes v → w ≤ v

-- Two channels across that are w or more apart serve every channel at this end, where the rule binds.
abbrev pub Enough : Meaning → ℕ → Bool → ℕ → Type 0
Enough m i s w = (m.ends i ≡ None → ⊥) → Serves (allows m i s) w

-- The least distance that is enough; 0 where the rule binds nothing.
pub record Spread (m : Meaning) (i : ℕ) (s : Bool) (w : ℕ) : Type 0 where
  pub blank : m.ends i ≡ None → w ≡ 0
  pub enough : Enough m i s w
  pub least : (m.ends i ≡ None → ⊥) → (v : ℕ) → Enough m i s v → w ≤ v
