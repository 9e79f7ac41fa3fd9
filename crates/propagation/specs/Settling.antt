-- Groups that keep one channel, and the line of assignments just settled.
use Rattle.std.specs.Prelude.{◌≡◌, ℕ, ◌+◌, ◌*◌, ◌<◌, Bool, true, false, ◌||◌, ◌⊎◌, List, [], ◌∷◌, ◌++◌, length, ◌==◌, ◌≢◌, slice_index}
use Rattle.rules.specs.Channels.{has}
use Rattle.model.specs.Remains.{family}
use Rattle.propagation.specs.declared.records.Assignment.{Assignment}

abbrev pub assignment : ℕ → ℕ → Assignment
assignment g c = record { group = g; channel = c }

-- The assignment of the word v waits; an assignment of the group g waits.
abbrev pub noted : List Assignment → ℕ → Bool
noted [] v = false
noted (f ∷ s) v = 64 * f.group + f.channel == v || noted s v

abbrev pub stands : List Assignment → ℕ → Bool
stands [] g = false
stands (f ∷ s) g = f.group == g || stands s g

-- No group waits twice.
abbrev pub Alone : List Assignment → Type 0
Alone [] = Unit {0}
Alone (f ∷ s) = (stands s f.group ≡ false) × Alone s

-- The group keeps at most one channel.
abbrev pub Narrow : List ℕ → ℕ → Type 0
Narrow ms g = (a b : ℕ) → family ms g a ≡ true → family ms g b ≡ true → a ≡ b

-- The line of assignments just settled.
pub record Settled (ms : List ℕ) (s : List Assignment) : Type 0 where
  pub alone : Alone s
  pub below : (g : ℕ) → stands s g ≡ true → g < length ms
  pub narrow : (g : ℕ) → stands s g ≡ true → Narrow ms g

-- Some group keeps nothing.
abbrev pub Emptied : List ℕ → Type 0
Emptied ms = (g : ℕ) × (g < length ms) × (slice_index ms g ≡ 0)

-- Two channels in a set; and one alone.
abbrev pub Two : ℕ → Type 0
Two k = (a b : ℕ) × (has k a ≡ true) × (has k b ≡ true) × (a ≢ b)

abbrev pub Sole : ℕ → ℕ → Type 0
Sole k c = (has k c ≡ true) × ((j : ℕ) → has k j ≡ true → j ≡ c)

-- Where the set that group g keeps has one channel, that assignment goes in line.
abbrev pub Noting : ℕ → ℕ → List Assignment → List Assignment → Type 0
Noting g k s s' = ((s' ≡ s) × Two k) ⊎ ((c : ℕ) × (s' ≡ s ++ (assignment g c ∷ [])) × Sole k c)
