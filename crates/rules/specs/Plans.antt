-- Complete choices and plans. Assumes nothing.
use Rattle.std.specs.Prelude.{◌≡◌, ℕ, ◌<◌, true, false, List, length, Some, slice_index, slice_index_or}
use Rattle.rules.specs.Channels.{has}
use Rattle.rules.specs.Meanings.{Meaning}

-- The group g has a list, and the channel c stands in it.
pub record Listed (lists : List ℕ) (g c : ℕ) : Type 0 where
  pub group : g < length lists
  pub channel : c < 64
  pub bit : has (slice_index lists g) c ≡ true

-- A choice is a list with one number a group: the channel that the group is given, or 64 where it is given none.
-- A complete one has a listed channel for every group.
pub record Complete (lists x : List ℕ) : Type 0 where
  pub size : length x ≡ length lists
  pub listed : (g : ℕ) → g < length lists → Listed lists g (slice_index_or x g 64)

-- Rule i binds, and does not permit the choice's channels at its two groups, in their order.
abbrev pub BreaksAt : Meaning → List ℕ → ℕ → Type 0
BreaksAt book x i = (g h : ℕ) × (book.ends i ≡ Some (g, h)) × (book.permits i (slice_index_or x g 64) (slice_index_or x h 64) ≡ false)

-- Some rule does.
abbrev pub Breaks : Meaning → List ℕ → Type 0
Breaks book x = (i g h : ℕ) × (book.ends i ≡ Some (g, h)) × (book.permits i (slice_index_or x g 64) (slice_index_or x h 64) ≡ false)

-- A complete choice that breaks no rule.
pub record Plan (lists : List ℕ) (book : Meaning) (x : List ℕ) : Type 0 where
  pub complete : Complete lists x
  pub kept : Breaks book x → ⊥
