-- Tests of all and of some over lists.
use Rattle.std.proofs.Common.{◌≡◌, ℕ, zero, suc, ◌<◌, Bool, true, false, ◌⊎◌, List, [], ◌∷◌, ◌++◌, refl, inl, inr, not-suc-le-zero, arith}
use Rattle.std.proofs.lemmas.Bool.{and_parts, and_from, or_cases, or_left, or_right, false≢true, both_ways, cases_Bool, cases_eq}
use Rattle.std.specs.List.{AllByRecursion}
use Rattle.model.specs.Lists.{all, any}

pub refuted : (t : Bool) → (t ≡ true → ⊥) → t ≡ false
refuted true f = absurd (f refl)
refuted false f = refl

module _ {A : Type 0} (p : A → Bool) where
  pub any_left : (xs ys : List A) → any p xs ≡ true → any p (xs ++ ys) ≡ true
  any_left [] ys e = absurd (false≢true e)
  any_left (x ∷ xs) ys e =
      elim (or_cases (p x) (any p xs) e) [ inl h ↦ or_left (p x) (any p (xs ++ ys)) h | inr h ↦ or_right (p x) (any p (xs ++ ys)) (any_left xs ys h) ]

  pub any_right : (xs ys : List A) → any p ys ≡ true → any p (xs ++ ys) ≡ true
  any_right [] ys e = e
  any_right (x ∷ xs) ys e = or_right (p x) (any p (xs ++ ys)) (any_right xs ys e)

  pub any_cases : (xs ys : List A) → any p (xs ++ ys) ≡ true → (any p xs ≡ true) ⊎ (any p ys ≡ true)
  any_cases [] ys e = inr e
  any_cases (x ∷ xs) ys e = elim (or_cases (p x) (any p (xs ++ ys)) e) [ inl h ↦ inl (or_left (p x) (any p xs) h) | inr h ↦ later (any_cases xs ys h) ]
    where
      later : (any p xs ≡ true) ⊎ (any p ys ≡ true) → (any p (x ∷ xs) ≡ true) ⊎ (any p ys ≡ true)
      later (inl h) = inl (or_right (p x) (any p xs) h)
      later (inr h) = inr h

  pub any_one : (x : A) → any p (x ∷ []) ≡ true → p x ≡ true
  any_one x e = elim (or_cases (p x) false e) [ inl h ↦ h | inr h ↦ absurd (false≢true h) ]

  pub one_any : (x : A) → p x ≡ true → any p (x ∷ []) ≡ true
  one_any x e = or_left (p x) false e

  pub all-All : (xs : List A) → all p xs ≡ true → AllByRecursion (λ x. p x ≡ true) xs
  all-All [] e = tt
  all-All (x ∷ xs) e = let q : (p x ≡ true) × (all p xs ≡ true) = and_parts (p x) (all p xs) e in (q.0, all-All xs q.1)

  pub All-all : (xs : List A) → AllByRecursion (λ x. p x ≡ true) xs → all p xs ≡ true
  All-all [] h = refl
  All-all (x ∷ xs) h = and_from (p x) (all p xs) h.0 (All-all xs h.1)

  pub all_left : (xs ys : List A) → all p (xs ++ ys) ≡ true → all p xs ≡ true
  all_left [] ys e = refl
  all_left (x ∷ xs) ys e = let q : (p x ≡ true) × (all p (xs ++ ys) ≡ true) = and_parts (p x) (all p (xs ++ ys)) e in and_from (p x) (all p xs) q.0 (all_left xs ys q.1)

  pub all_right : (xs ys : List A) → all p (xs ++ ys) ≡ true → all p ys ≡ true
  all_right [] ys e = e
  all_right (x ∷ xs) ys e = all_right xs ys (and_parts (p x) (all p (xs ++ ys)) e).1

  pub all_one : (x : A) → all p (x ∷ []) ≡ true → p x ≡ true
  all_one x e = (and_parts (p x) true e).0

  pub all_both : (xs ys : List A) → all p xs ≡ true → all p ys ≡ true → all p (xs ++ ys) ≡ true
  all_both [] ys e f = f
  all_both (x ∷ xs) ys e f = let q : (p x ≡ true) × (all p xs ≡ true) = and_parts (p x) (all p xs) e in and_from (p x) (all p (xs ++ ys)) q.0 (all_both xs ys q.1 f)

  pub none_left : (xs ys : List A) → any p (xs ++ ys) ≡ false → any p xs ≡ false
  none_left xs ys e = refuted (any p xs) (λ h. both_ways (any p (xs ++ ys)) e (any_left xs ys h))

  pub none_right : (xs ys : List A) → any p (xs ++ ys) ≡ false → any p ys ≡ false
  none_right xs ys e = refuted (any p ys) (λ h. both_ways (any p (xs ++ ys)) e (any_right xs ys h))

-- What holds of everything holds of each element.
pub of_all : {A : Type 0} (P : A → Type 0) → ((x : A) → P x) → (xs : List A) → AllByRecursion P xs
of_all P f [] = tt
of_all P f (x ∷ xs) = (f x, of_all P f xs)
