-- The records that wait in a line over lent places.
use Rattle.std.specs.Prelude.{ℕ, List, ◌++◌, length, take, drop}
use Rattle.propagation.specs.declared.ring.Ring.{Ring}

-- the records that wait, oldest first: len places from head on, and round to the start
abbrev pub waiting : {X : Type 0} → List X → ℕ → ℕ → List X
waiting places head len = take len (drop head places ++ take head places)

abbrev pub queued : {X : Type 0} → Ring X → List X
queued r = waiting r.places.now r.head r.len

-- how many places there are
abbrev pub size : {X : Type 0} → Ring X → ℕ
size r = length r.places.now
