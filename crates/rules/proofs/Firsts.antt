-- The lowest number that passes a test.
use Rattle.std.proofs.Common.{◌≡◌, ℕ, zero, suc, ◌<◌, ◌≤◌, Bool, true, false, ◌⊎◌, inl, inr, not-suc-le-zero, cond, List, length, get_or, Some, None, Option, sym, refl, ap, ◌∙◌, subst, ⊎_elim, arith, MatchOption}
use Rattle.std.specs.List.{zip, AllWithin, HoldsAt}
use Rattle.std.proofs.lemmas.Slice.Zip.{get_or-zip, length-zip}
use Rattle.std.proofs.lemmas.Bool.{cond-true, cond-false, cond_both, cases_lt, cases_Bool, cases_eq}
use Rattle.std.specs.Option.{option_or}
use Rattle.rules.specs.Checks.{lowest}

-- what holds below i and at i holds below its successor
pub below_suc : (P : ℕ → Type 0) (i : ℕ) → ((j : ℕ) → j < i → P j) → P i → (j : ℕ) → j < suc i → P j
below_suc P i f h j l = ⊎_elim (λ e. f j e) (λ e. let q : i ≡ j = omega arith in subst P q h) (cases_lt j i)

pub lowest_none : (t : ℕ → Bool) (n : ℕ) → ((k : ℕ) → k < n → t k ≡ false) → lowest t n ≡ None
lowest_none t zero f = refl
lowest_none t (suc n) f =
    ap (λ (o : Option ℕ). option_or o (cond (t n) (Some n) None)) (lowest_none t n (λ k l. f k (omega arith)))
    ∙ cond-false (t n) (Some n) None (f n (omega arith))

pub lowest_at : (t : ℕ → Bool) (n i : ℕ) → i < n → t i ≡ true → ((k : ℕ) → k < i → t k ≡ false) → lowest t n ≡ Some i
lowest_at t zero i l e f = absurd (omega arith)
lowest_at t (suc n) i l e f =
    ⊎_elim (λ h. ap (λ (o : Option ℕ). option_or o (cond (t n) (Some n) None)) (lowest_at t n i h e f))
    (λ h. let q : i ≡ n = omega arith in
    ap (λ (o : Option ℕ). option_or o (cond (t n) (Some n) None)) (lowest_none t n (λ k l. f k (omega arith)))
    ∙ (cond-true (t n) (Some n) None (subst (λ j. t j ≡ true) q e) ∙ ap Some (sym q))) (cases_lt i n)

-- what the lowest is, told back
pub record First (t : ℕ → Bool) (n i : ℕ) : Type 0 where
  pub within : i < n
  pub passes : t i ≡ true
  pub before : (k : ℕ) → k < i → t k ≡ false

tells_more : (t : ℕ → Bool) (n : ℕ) (o : Option ℕ) → MatchOption o ((k : ℕ) → k < n → t k ≡ false) (First t n) →
    MatchOption (option_or o (cond (t n) (Some n) None)) ((k : ℕ) → k < suc n → t k ≡ false) (First t (suc n))
tells_more t n (Some i) h = record { within = omega (arith, h.within); passes = h.passes; before = h.before }
tells_more t n None h =
    cond_both (t n) (Some n) None (λ (o : Option ℕ). MatchOption o ((k : ℕ) → k < suc n → t k ≡ false) (First t (suc n)))
    (λ e. record { within = omega arith; passes = e; before = h })
    (λ e. below_suc (λ k. t k ≡ false) n h e)

pub lowest_tells : (t : ℕ → Bool) (n : ℕ) → MatchOption (lowest t n) ((k : ℕ) → k < n → t k ≡ false) (First t n)
lowest_tells t zero = λ k l. absurd (omega arith)
lowest_tells t (suc n) = tells_more t n (lowest t n) (lowest_tells t n)

-- what a search in the order of the numbers finds is the lowest
pub lowest_is : (t : ℕ → Bool) (n : ℕ) (r : Option ℕ) → MatchOption r ((k : ℕ) → k < n → t k ≡ false) (First t n) → r ≡ lowest t n
lowest_is t n None h = sym (lowest_none t n h)
lowest_is t n (Some i) h = sym (lowest_at t n i h.within h.passes h.before)

-- the same over a range
pub lowest_in_range : (t : ℕ → Bool) (m n : ℕ) (r : Option ℕ) → m ≡ n →
    MatchOption r ((k : ℕ) → 0 ≤ k → k < m → t k ≡ false) (λ i. (0 ≤ i) × (i < m) × (t i ≡ true) × ((k : ℕ) → 0 ≤ k → k < i → t k ≡ false)) → r ≡ lowest t n
lowest_in_range t m n None e h = lowest_is t n None (λ k l. h k (omega arith) (omega arith))
lowest_in_range t m n (Some i) e h = lowest_is t n (Some i) (record { within = omega (arith, h.1); passes = h.2; before = λ k l. h.3 k (omega arith) l })

-- the same over the pairs of two lists
pub lowest_in_pairs : (p : ℕ × ℕ → Bool) (t : ℕ → Bool) (xs ys : List ℕ) (r : Option ℕ) → length ys ≡ length xs → (d : ℕ × ℕ) →
    ((k : ℕ) → k < length xs → p (get_or xs k d.0, get_or ys k d.1) ≡ t k) →
    MatchOption r (AllWithin (λ x. p x ≡ false) (zip xs ys) 0 (length (zip xs ys)))
    (λ i. (i < length (zip xs ys)) × HoldsAt (λ x. p x ≡ true) (zip xs ys) i × AllWithin (λ x. p x ≡ false) (zip xs ys) 0 i) →
    r ≡ lowest t (length xs)
lowest_in_pairs p t xs ys r e d same h = go r h
  where
    n : length (zip xs ys) ≡ length xs
    n = omega (arith, length-zip xs ys)

    at : (k : ℕ) → k < length xs → p (get_or (zip xs ys) k d) ≡ t k
    at k l = ap p (get_or-zip xs ys k d l (omega arith)) ∙ same k l

    go : (r : Option ℕ) → MatchOption r (AllWithin (λ x. p x ≡ false) (zip xs ys) 0 (length (zip xs ys)))
        (λ i. (i < length (zip xs ys)) × HoldsAt (λ x. p x ≡ true) (zip xs ys) i × AllWithin (λ x. p x ≡ false) (zip xs ys) 0 i) →
        r ≡ lowest t (length xs)
    go None h = lowest_is t (length xs) None (λ k l. sym (at k l) ∙ h k d (omega arith) (omega (arith, n)))
    go (Some i) h =
        let w : i < length xs = omega (arith, h.0, n) in
        lowest_is t (length xs) (Some i) (record {
          within = w;
          passes = sym (at i w) ∙ h.1 d;
          before = λ k l. sym (at k (omega arith)) ∙ h.2 k d (omega arith) l;
        })

-- A number below n that passes the test, or that there is none.
pub seek : (p : ℕ → Bool) (n : ℕ) → ((i : ℕ) × (i < n) × (p i ≡ true)) ⊎ ((i : ℕ) → i < n → p i ≡ false)
seek p zero = inr (λ i h. absurd (not-suc-le-zero h))
seek p (suc n) = go (cases_Bool (p n)) (seek p n)
  where
    go : (p n ≡ true) ⊎ (p n ≡ false) → ((i : ℕ) × (i < n) × (p i ≡ true)) ⊎ ((i : ℕ) → i < n → p i ≡ false)
        → ((i : ℕ) × (i < suc n) × (p i ≡ true)) ⊎ ((i : ℕ) → i < suc n → p i ≡ false)
    go (inl e) r = inl (n, omega arith, e)
    go (inr e) (inl f) = inl (f.0, omega arith, f.2)
    go (inr e) (inr f) = inr (λ i h. elim (cases_eq i n) [ inl q ↦ rw q e | inr q ↦ f i (omega arith) ])
