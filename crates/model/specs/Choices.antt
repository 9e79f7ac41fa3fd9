-- Choices, what shuts one out, plans, and all choices there are.
use Rattle.std.specs.Prelude.{ℕ, zero, suc, ◌+◌, ◌*◌, Bool, cond, List, [], ◌∷◌, ◌++◌, map, length, ◌==◌, slice_index_or}
use Rattle.rules.specs.Channels.{has}
use Rattle.model.specs.Masks.{grp, chan}
use Rattle.model.specs.Lists.{all, any}

-- A choice is a list with one number a group: the channel that the group is given, or 64 where it is given none.
abbrev pub holds : List ℕ → ℕ → Bool
holds x w = slice_index_or x (grp w) 64 == chan w

-- The choice has all assignments of the nogood.
abbrev pub contains : List ℕ → List ℕ → Bool
contains x nogood = all (holds x) nogood

-- It has all assignments of some nogood.
abbrev pub shut : List (List ℕ) → List ℕ → Bool
shut nogoods x = any (contains x) nogoods

-- The channels below k that a list has, and all of them.
abbrev pub below : ℕ → ℕ → List ℕ
below m zero = []
below m (suc k) = cond (has m k) (k ∷ []) [] ++ below m k

abbrev pub channels : ℕ → List ℕ
channels m = below m 64

-- Every one of es in front of every one of xs.
abbrev pub fronts : List ℕ → List (List ℕ) → List (List ℕ)
fronts [] xs = []
fronts (e ∷ es) xs = map (λ x. e ∷ x) xs ++ fronts es xs

-- All choices, complete and not.
abbrev pub choices : List ℕ → List (List ℕ)
choices [] = [] ∷ []
choices (m ∷ ms) = fronts (64 ∷ channels m) (choices ms)

-- Their number: the product over the groups of one more than the channels listed.
abbrev pub combinations : List ℕ → ℕ
combinations [] = 1
combinations (m ∷ ms) = (1 + length (channels m)) * combinations ms
