-- For each group, how far two of its channels have to be apart for every channel across from it to go with one of them.
use Rattle.std.specs.Prelude.{◌≡◌, ℕ, ◌<◌, ◌≤◌, Bool, List, length, Some, slice_index}
use Rattle.rules.specs.Meanings.{Meaning}
use Rattle.rules.specs.Supports.{far, Enough}

-- It is the least that is enough for the ends across from the group, of the rules below k.
pub record SpreadsBelow (m : Meaning) (k : ℕ) (spreads : List ℕ) : Type 0 where
  pub enough : (i : ℕ) (s : Bool) (e : ℕ × ℕ) → i < k → m.ends i ≡ Some e → Enough m i s (slice_index spreads (far s e))
  pub least : (g w : ℕ) → ((i : ℕ) (s : Bool) (e : ℕ × ℕ) → i < k → m.ends i ≡ Some e → far s e ≡ g → Enough m i s w) → slice_index spreads g ≤ w

-- Of all rules of the book.
pub record Spreads (m : Meaning) (spreads : List ℕ) : Type 0 where
  pub size : length spreads ≡ 200
  pub groups : m.groups ≤ 200
  pub enough : (i : ℕ) (s : Bool) (e : ℕ × ℕ) → m.ends i ≡ Some e → Enough m i s (slice_index spreads (far s e))
  pub least : (g w : ℕ) → ((i : ℕ) (s : Bool) (e : ℕ × ℕ) → m.ends i ≡ Some e → far s e ≡ g → Enough m i s w) → slice_index spreads g ≤ w
