-- Sets of channels as numbers.
use Rattle.std.specs.Prelude.{◌≡◌, ℕ, ◌+◌, ◌/◌, ◌%◌, ◌^◌, ◌<◌, Bool, true, ◌&&◌, ◌==◌, nat_lt}

-- Bit c of the set, from the lowest: whether it has the channel c; and the same as a fact.
abbrev pub has : ℕ → ℕ → Bool
has set c = (set / 2 ^ c % 2) == 1

abbrev pub Has : ℕ → ℕ → Type 0
Has set c = set / 2 ^ c % 2 ≡ 1

-- whether a set has a channel; none above 63 is in any
abbrev pub channel_in : ℕ → ℕ → Bool
channel_in set c = nat_lt c 64 && has set c

-- From the lowest channel of a set to the highest there are w, both counted; 0 where the set has none.
pub record Spans (set w : ℕ) : Type 0 where
  pub none : set ≡ 0 → w ≡ 0
  pub within : (b c : ℕ) → has set b ≡ true → has set c ≡ true → c < b + w
  pub reached : (set ≡ 0 → ⊥) → (b c : ℕ) × (has set b ≡ true) × (has set c ≡ true) × (c + 1 ≡ b + w)
