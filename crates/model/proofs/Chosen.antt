-- The choice of the assignments taken on a branch.
use Rattle.std.proofs.Common.{◌≡◌, ℕ, zero, suc, ◌<◌, ◌≤◌, Bool, true, false, cond, ltb, ◌≢◌, ◌⊎◌, List, [], ◌∷◌, length, get_or, set, replicate, sym, refl, ap, ◌∙◌, inl, inr, not-suc-le-zero, arith, length-append, length-set, get_or-set_other, get_or-set_same}
use lib.ListN.{length-replicate}
use Rattle.std.specs.List.{AllByRecursion}
use Rattle.std.proofs.lemmas.Bool.{cases_eq, and_parts, and_from, eqb-true, eq-eqb, lt-ltb, le-ltb, false≢true}
use Rattle.rules.specs.Plans.{Listed}
use Rattle.model.specs.Masks.{grp, chan}
use Rattle.model.specs.Decisions.{Decision, taken, refused, takens, Free, Assignment, Branch}
use Rattle.model.specs.Choices.{holds, contains}
use Rattle.model.specs.Remains.{Family, Only, Obeys}
use Rattle.model.proofs.Tests.{all_both}
use Rattle.model.proofs.Formed.{free_takens}
use Rattle.model.proofs.Count.{count, count-≤, Entries}

abbrev pub chosen : ℕ → List Decision → List ℕ
chosen n [] = replicate n 64
chosen n (taken w ∷ ds) = set (chosen n ds) (grp w) (chan w)
chosen n (refused w ∷ ds) = chosen n ds

pub chosen_length : (n : ℕ) (ds : List Decision) → length (chosen n ds) ≡ n
chosen_length n [] = length-replicate n 64
chosen_length n (taken w ∷ ds) = length-set (chosen n ds) (grp w) (chan w) ∙ chosen_length n ds
chosen_length n (refused w ∷ ds) = chosen_length n ds

pub empty_at : (n g : ℕ) → ◌≡◌ {A = ℕ} (get_or (replicate n 64) g 64) 64
empty_at zero g = refl
empty_at (suc n) zero = refl
empty_at (suc n) (suc g) = empty_at n g

-- A group given none holds no assignment.
pub none_held : (x : List ℕ) (v : ℕ) → get_or x (grp v) 64 ≡ 64 → holds x v ≡ true → ⊥
none_held x v e h = let q : get_or x (grp v) 64 ≡ chan v = eqb-true _ _ h in omega arith

pub chosen_free : (n w : ℕ) (ds : List Decision) → Free w ds → get_or (chosen n ds) (grp w) 64 ≡ 64
chosen_free n w [] f = empty_at n (grp w)
chosen_free n w (taken v ∷ ds) f = get_or-set_other (chosen n ds) (grp v) (grp w) (chan v) 64 (λ e. f.0 (sym e)) ∙ chosen_free n w ds f.1
chosen_free n w (refused v ∷ ds) f = chosen_free n w ds f.1

-- Giving a group its channel leaves the assignments of other groups, and of that group none but that.
pub set_held : (x : List ℕ) (w v : ℕ) → grp v ≢ grp w → holds x v ≡ true → holds (set x (grp w) (chan w)) v ≡ true
set_held x w v ne h = eq-eqb _ _ (get_or-set_other x (grp w) (grp v) (chan w) 64 ne ∙ eqb-true _ _ h)

pub same_word : (v w : ℕ) → grp v ≡ grp w → chan v ≡ chan w → v ≡ w
same_word v w e f = omega arith

pub set_cases : (x : List ℕ) (w v : ℕ) → grp w < length x → holds (set x (grp w) (chan w)) v ≡ true → (v ≡ w) ⊎ (holds x v ≡ true)
set_cases x w v l h = go (cases_eq (grp v) (grp w))
  where
    at : get_or (set x (grp w) (chan w)) (grp v) 64 ≡ chan v
    at = eqb-true _ _ h

    go : (grp v ≡ grp w) ⊎ (grp v ≡ grp w → ⊥) → (v ≡ w) ⊎ (holds x v ≡ true)
    go (inl e) = inl (same_word v w e (sym at ∙ (ap (λ g. get_or (set x (grp w) (chan w)) g 64) e ∙ get_or-set_same x (grp w) (chan w) 64 l)))
    go (inr ne) = inr (eq-eqb _ _ (sym (get_or-set_other x (grp w) (grp v) (chan w) 64 ne) ∙ at))

pub contains_set : (x : List ℕ) (w : ℕ) (ws : List ℕ) → AllByRecursion (λ v. grp v ≢ grp w) ws → contains x ws ≡ true → contains (set x (grp w) (chan w)) ws ≡ true
contains_set x w [] f h = refl
contains_set x w (v ∷ ws) f h = let q = and_parts (holds x v) (contains x ws) h in and_from _ _ (set_held x w v f.0 q.0) (contains_set x w ws f.1 q.1)

module _ (lists : List ℕ) where
  -- The choice of the branch.
  abbrev pub branch_choice : List Decision → List ℕ
  branch_choice ds = chosen (length lists) ds

  pub inside : (w : ℕ) (ds : List Decision) → Assignment lists w → grp w < length (branch_choice ds)
  inside w ds l = rw (chosen_length (length lists) ds) l.group

  pub chosen_contains : (ds : List Decision) → Branch lists ds → contains (branch_choice ds) (takens ds) ≡ true
  chosen_contains [] b = refl
  chosen_contains (taken w ∷ ds) b =
      all_both (holds (branch_choice (taken w ∷ ds))) (takens ds) (w ∷ []) (contains_set (branch_choice ds) w (takens ds) (free_takens w ds b.1) (chosen_contains ds b.2))
      (and_from _ true (eq-eqb _ _ (get_or-set_same (branch_choice ds) (grp w) (chan w) 64 (inside w ds b.0))) refl)
  chosen_contains (refused w ∷ ds) b = chosen_contains ds b.2

  -- What it holds is listed, and alone in its group in what remains.
  pub chosen_only : (k : Family) (ds : List Decision) → Branch lists ds → AllByRecursion (Obeys k) ds → (v : ℕ) → holds (branch_choice ds) v ≡ true → Only k v × Assignment lists v
  chosen_only k [] b o v h = absurd (none_held (branch_choice []) v (empty_at (length lists) (grp v)) h)
  chosen_only k (taken w ∷ ds) b o v h =
      elim (set_cases (branch_choice ds) w v (inside w ds b.0) h) [
        | inl e ↦ rw e (o.0, b.0)
        | inr i ↦ chosen_only k ds b.2 o.1 v i
      ]
  chosen_only k (refused w ∷ ds) b o v h = chosen_only k ds b.2 o.1 v h

  pub chosen_entries : (ds : List Decision) → Branch lists ds → Entries lists (branch_choice ds)
  chosen_entries [] b g l = inl (empty_at (length lists) g)
  chosen_entries (taken w ∷ ds) b g l = go (cases_eq g (grp w)) (chosen_entries ds b.2 g l)
    where
      go : (g ≡ grp w) ⊎ (g ≡ grp w → ⊥) → (get_or (branch_choice ds) g 64 ≡ 64) ⊎ Listed lists g (get_or (branch_choice ds) g 64)
          → (get_or (branch_choice (taken w ∷ ds)) g 64 ≡ 64) ⊎ Listed lists g (get_or (branch_choice (taken w ∷ ds)) g 64)
      go (inl e) r = inr (rw (e, get_or-set_same (branch_choice ds) (grp w) (chan w) 64 (inside w ds b.0)) b.0)
      go (inr ne) r = rw (get_or-set_other (branch_choice ds) (grp w) g (chan w) 64 ne) r
  chosen_entries (refused w ∷ ds) b g l = chosen_entries ds b.2 g l

-- The groups given a channel.
abbrev pub given : ℕ → Bool
given e = ltb e 64

cond_is : (b : Bool) (m n : ℕ) → b ≡ true → cond b m n ≡ m
cond_is true m n e = refl
cond_is false m n e = absurd (false≢true e)

cond_not : (b : Bool) (m n : ℕ) → b ≡ false → cond b m n ≡ n
cond_not true m n e = absurd (false≢true (sym e))
cond_not false m n e = refl

more_given : (b : Bool) (m n : ℕ) → m ≡ suc n → cond b (suc m) m ≡ suc (cond b (suc n) n)
more_given true m n e = ap suc e
more_given false m n e = e

pub set_given : (x : List ℕ) (g c : ℕ) → g < length x → get_or x g 64 ≡ 64 → c < 64 → count given (set x g c) ≡ suc (count given x)
set_given [] g c l e h = absurd (not-suc-le-zero l)
set_given (f ∷ x) zero c l e h = cond_is (given c) _ _ (lt-ltb c 64 h) ∙ ap suc (sym (cond_not (given f) _ _ (le-ltb f 64 (omega arith))))
set_given (f ∷ x) (suc g) c l e h = more_given (given f) (count given (set x g c)) (count given x) (set_given x g c (omega arith) e h)

pub empty_given : (n : ℕ) → count given (replicate n 64) ≡ 0
empty_given zero = refl
empty_given (suc n) = empty_given n

chosen_given : (lists : List ℕ) (ds : List Decision) → Branch lists ds → count given (chosen (length lists) ds) ≡ length (takens ds)
chosen_given lists [] b = empty_given (length lists)
chosen_given lists (taken w ∷ ds) b =
    set_given (chosen (length lists) ds) (grp w) (chan w) (inside lists w ds b.0) (chosen_free (length lists) w ds b.1) b.0.channel
    ∙ omega (arith, length-append (takens ds) (w ∷ []), chosen_given lists ds b.2)
chosen_given lists (refused w ∷ ds) b = chosen_given lists ds b.2

-- No more is taken than there are groups.
pub takens_few : (lists : List ℕ) (ds : List Decision) → Branch lists ds → length (takens ds) ≤ length lists
takens_few lists ds b =
    omega (arith, chosen_given lists ds b, count-≤ given (chosen (length lists) ds), chosen_length (length lists) ds)
