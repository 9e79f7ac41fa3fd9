-- What remains: a word for each group, bit c of it for channel c. Assumes nothing.
use Rattle.std.specs.Prelude.{ℕ, ◌<◌, ◌≤◌, Bool, List, count_ones, nat_le, slice_index}
use Rattle.rules.specs.Channels.{Has}

-- how many channels the group g keeps: none past the end
abbrev pub count : List ℕ → ℕ → ℕ
count ms g = count_ones (slice_index ms g)

-- the group g keeps two or more
abbrev pub Open : List ℕ → ℕ → Type 0
Open ms g = 2 ≤ count ms g

abbrev pub open? : List ℕ → ℕ → Bool
open? ms g = nat_le 2 (count ms g)

-- c is the lowest channel of m
abbrev pub Lowest : ℕ → ℕ → Type 0
Lowest m c = Has m c × ((j : ℕ) → j < c → Has m j → ⊥)
