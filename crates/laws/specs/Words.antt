-- The tests of a branch and of a base that may have been disturbed.
use Rattle.std.specs.Prelude.{ℕ, zero, suc, Bool, true, false, not, ◌&&◌, List, [], ◌∷◌, length, Some, None, Option, ◌==◌, nat_lt, slice_index}
use Rattle.rules.specs.Channels.{has}
use Rattle.model.specs.Masks.{grp, chan}
use Rattle.model.specs.Lists.{all}
use Rattle.model.specs.Decisions.{Decision, taken, refused, word}

-- The word is a listed assignment.
abbrev pub listed? : List ℕ → ℕ → Bool
listed? lists w = nat_lt (grp w) (length lists) && has (slice_index lists (grp w)) (chan w)

-- The assignment w is not on the branch, and its group is not taken there.
abbrev pub free? : ℕ → List Decision → Bool
free? w [] = true
free? w (taken v ∷ ds) = not (grp v == grp w) && free? w ds
free? w (refused v ∷ ds) = not (v == w) && free? w ds

-- Listed assignments, none twice, and none of a group taken before.
abbrev pub branch? : List ℕ → List Decision → Bool
branch? lists [] = true
branch? lists (d ∷ ds) = listed? lists (word d) && (free? (word d) ds && branch? lists ds)

-- One or more listed assignments, no two of one group.
abbrev pub apart? : List ℕ → Bool
apart? [] = true
apart? (w ∷ ws) = all (λ v. not (grp w == grp v)) ws && apart? ws

abbrev pub some? : List ℕ → Bool
some? [] = false
some? (w ∷ ws) = true

abbrev pub nogood? : List ℕ → List ℕ → Bool
nogood? lists ws = some? ws && (all (listed? lists) ws && apart? ws)

-- The words read as nogoods: first the n words that the nogood begun still wants, then for each nogood the number of its words and these.
abbrev pub begin : Option (List ℕ × List (List ℕ)) → Option (List ℕ × List (List ℕ))
begin None = None
begin (Some p) = Some ([], p.0 ∷ p.1)

abbrev pub add : ℕ → Option (List ℕ × List (List ℕ)) → Option (List ℕ × List (List ℕ))
add w None = None
add w (Some p) = Some (w ∷ p.0, p.1)

abbrev pub cut : ℕ → List ℕ → Option (List ℕ × List (List ℕ))
cut zero [] = Some ([], [])
cut zero (w ∷ ws) = begin (cut w ws)
cut (suc n) [] = None
cut (suc n) (w ∷ ws) = add w (cut n ws)

abbrev pub whole : Option (List ℕ × List (List ℕ)) → Option (List (List ℕ))
whole None = None
whole (Some p) = Some p.1

-- The nogoods that the words hold, where they are whole.
abbrev pub whole_base : List ℕ → Option (List (List ℕ))
whole_base ws = whole (cut 0 ws)

abbrev pub nogoods? : List ℕ → Option (List (List ℕ)) → Bool
nogoods? lists None = false
nogoods? lists (Some ns) = all (nogood? lists) ns

abbrev pub base? : List ℕ → List ℕ → Bool
base? lists ws = nogoods? lists (whole_base ws)
