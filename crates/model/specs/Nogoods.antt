-- The nogoods of a base, given one by one from the front.
use Rattle.std.specs.Prelude.{◌≡◌, ℕ, ◌<◌, ◌≤◌, List, [], ◌∷◌, ◌++◌, length, Some, None, Option}
use Rattle.std.specs.Borrow.{Bor}
use Rattle.model.specs.Words.{base_of}
use Rattle.model.specs.declared.base.Nogoods.{Nogoods}

-- The words of a base begin with a number and a nogood of as many assignments, and go on with the rest. Where fewer words are there, the nogood has all of them.
pub record Begins (words : List ℕ) (count : ℕ) (nogood rest : List ℕ) : Type 0 where
  pub nogoods : base_of words ≡ nogood ∷ base_of rest
  pub front : words ≡ count ∷ (nogood ++ rest)
  pub at_most : length nogood ≤ count
  pub short : length nogood < count → rest ≡ []

-- The first nogood is given with its number, or none is left.
abbrev pub GivesNogood : Nogoods → Option (ℕ × Bor (List ℕ)) → Nogoods → Type 0
GivesNogood old None new = (old.0.now ≡ []) × (new.0.now ≡ [])
GivesNogood old (Some item) new = Begins old.0.now item.0 item.1.now new.0.now
