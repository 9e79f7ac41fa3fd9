-- Marks set and cleared, and the line that they go with. Assumes nothing.
use Rattle.std.proofs.Common.{◌≡◌, ℕ, zero, suc, ◌+◌, ◌-◌, ◌*◌, ◌/◌, ◌%◌, ◌^◌, ◌<◌, ◌≤◌, Bool, true, false, not, ◌&&◌, ◌||◌, eqb, ◌≢◌, ◌⊎◌, List, [], ◌∷◌, ◌++◌, length, get_or, set, sym, refl, ap, ◌∙◌, subst, inl, inr, arith}
use Rattle.std.proofs.lemmas.Bool.{eqb-true, eq-eqb, ne_eqb, cases_eq, false≢true, or_cases, or_left, or_right, or_parts, or_from}
use Rattle.std.proofs.lemmas.List.{get_or-set_same, get_or-set_other, length_push}
use Rattle.rules.specs.Channels.{has}
use Rattle.propagation.specs.Waits.{one_if, at_end, place, waits, marked, Once, Line}
use Rattle.propagation.specs.declared.records.RuleEnd.{RuleEnd}
use Rattle.rules.proofs.Digits.{minus_has, plus_has}

eqb_rest : (j e : ℕ) → j / 32 ≡ e / 32 → eqb (j % 32) (e % 32) ≡ eqb j e
eqb_rest j e h = go (cases_eq j e)
  where
    go : (j ≡ e) ⊎ (j ≡ e → ⊥) → eqb (j % 32) (e % 32) ≡ eqb j e
    go (inl q) = eq-eqb (j % 32) (e % 32) (ap (λ (x : ℕ). x % 32) q) ∙ sym (eq-eqb j e q)
    go (inr n) = ne_eqb (j % 32) (e % 32) (λ q. n (omega arith)) ∙ sym (ne_eqb j e n)

or_same : (x y : Bool) → y ≡ false → x ≡ (x || y)
or_same true y e = refl
or_same false y e = sym e

and_same : (x y : Bool) → y ≡ true → x ≡ (x && y)
and_same true y e = sym e
and_same false y e = refl

module _ (marks : List ℕ) (e : ℕ) (fits : e / 32 < length marks) where
  abbrev w : ℕ
  w = get_or marks (e / 32) 0

  pub mark_has : marked marks e ≡ false → (j : ℕ) → marked (set marks (e / 32) (w + 2 ^ (e % 32))) j ≡ (marked marks j || eqb j e)
  mark_has h j = go (cases_eq (j / 32) (e / 32))
    where
      go : (j / 32 ≡ e / 32) ⊎ (j / 32 ≡ e / 32 → ⊥) → marked (set marks (e / 32) (w + 2 ^ (e % 32))) j ≡ (marked marks j || eqb j e)
      go (inl q) =
          let v : get_or (set marks (e / 32) (w + 2 ^ (e % 32))) (j / 32) 0 ≡ w + 2 ^ (e % 32) = rw q (get_or-set_same marks (e / 32) (w + 2 ^ (e % 32)) 0 fits) in
          let u : w ≡ get_or marks (j / 32) 0 = rw q refl in
          ap (λ (x : ℕ). has x (j % 32)) v ∙ plus_has w (e % 32) h (j % 32)
          ∙ ap (λ (x : ℕ). has x (j % 32) || eqb (j % 32) (e % 32)) u ∙ ap (λ (x : Bool). marked marks j || x) (eqb_rest j e q)
      go (inr n) =
          let v = get_or-set_other marks (e / 32) (j / 32) (w + 2 ^ (e % 32)) 0 n in
          ap (λ (x : ℕ). has x (j % 32)) v ∙ or_same (marked marks j) (eqb j e) (ne_eqb j e (λ q. n (ap (λ (x : ℕ). x / 32) q)))

  pub unmark_has : marked marks e ≡ true → (j : ℕ) → marked (set marks (e / 32) (w - 2 ^ (e % 32))) j ≡ (marked marks j && not (eqb j e))
  unmark_has h j = go (cases_eq (j / 32) (e / 32))
    where
      go : (j / 32 ≡ e / 32) ⊎ (j / 32 ≡ e / 32 → ⊥) → marked (set marks (e / 32) (w - 2 ^ (e % 32))) j ≡ (marked marks j && not (eqb j e))
      go (inl q) =
          let v : get_or (set marks (e / 32) (w - 2 ^ (e % 32))) (j / 32) 0 ≡ w - 2 ^ (e % 32) = rw q (get_or-set_same marks (e / 32) (w - 2 ^ (e % 32)) 0 fits) in
          let u : w ≡ get_or marks (j / 32) 0 = rw q refl in
          ap (λ (x : ℕ). has x (j % 32)) v ∙ minus_has w (e % 32) h (j % 32)
          ∙ ap (λ (x : ℕ). has x (j % 32) && not (eqb (j % 32) (e % 32))) u ∙ ap (λ (x : Bool). marked marks j && not x) (eqb_rest j e q)
      go (inr n) =
          let v = get_or-set_other marks (e / 32) (j / 32) (w - 2 ^ (e % 32)) 0 n in
          ap (λ (x : ℕ). has x (j % 32)) v ∙ and_same (marked marks j) (not (eqb j e)) (ap not (ne_eqb j e (λ q. n (ap (λ (x : ℕ). x / 32) q))))

-- one more in the line
pub waits_push : (q : List RuleEnd) (r : RuleEnd) (e : ℕ) → waits (q ++ r ∷ []) e ≡ (waits q e || eqb e (place r))
waits_push [] r e = flip (cases_eq e (place r))
  where
    flip : (e ≡ place r) ⊎ (e ≡ place r → ⊥) → (eqb (place r) e || false) ≡ eqb e (place r)
    flip (inl h) = or_left _ false (eq-eqb (place r) e (sym h)) ∙ sym (eq-eqb e (place r) h)
    flip (inr n) = or_from _ false (ne_eqb (place r) e (λ h. n (sym h))) refl ∙ sym (ne_eqb e (place r) n)
waits_push (s ∷ q) r e = ap (λ (x : Bool). eqb (place s) e || x) (waits_push q r e) ∙ shift (eqb (place s) e) (waits q e) (eqb e (place r))
  where
    shift : (x y z : Bool) → (x || (y || z)) ≡ ((x || y) || z)
    shift true y z = refl
    shift false y z = refl

pub once_push : (q : List RuleEnd) (r : RuleEnd) → Once q → waits q (place r) ≡ false → Once (q ++ r ∷ [])
once_push [] r o h = (refl, tt)
once_push (s ∷ q) r o h =
    let p = or_parts (eqb (place s) (place r)) (waits q (place r)) h in
    (waits_push q r (place s) ∙ or_from (waits q (place s)) (eqb (place s) (place r)) o.0 p.0, once_push q r o.1 p.1)

-- how many numbers below n pass a test
abbrev pub tally : (ℕ → Bool) → ℕ → ℕ
tally f zero = 0
tally f (suc n) = one_if (f n) + tally f n

one_most : (b : Bool) → one_if b ≤ 1
one_most true = omega arith
one_most false = omega arith

pub tally_most : (f : ℕ → Bool) (n : ℕ) → tally f n ≤ n
tally_most f zero = omega arith
tally_most f (suc n) = let r = tally_most f n in let o = one_most (f n) in omega arith

-- one more number passes
pub tally_same : (f g : ℕ → Bool) (n : ℕ) → ((j : ℕ) → j < n → f j ≡ g j) → tally f n ≡ tally g n
tally_same f g zero h = refl
tally_same f g (suc n) h = let r = tally_same f g n (λ j l. h j (omega arith)) in let e = ap one_if (h n (omega arith)) in omega arith

pub tally_more : (f g : ℕ → Bool) (e n : ℕ) → e < n → f e ≡ false → g e ≡ true → ((j : ℕ) → j ≢ e → f j ≡ g j) → tally g n ≡ suc (tally f n)
tally_more f g e zero l a b h = absurd (omega arith)
tally_more f g e (suc n) l a b h = go (cases_eq e n) (λ k. tally_more f g e n k a b h)
  where
    go : (e ≡ n) ⊎ (e ≡ n → ⊥) → (e < n → tally g n ≡ suc (tally f n)) → tally g (suc n) ≡ suc (tally f (suc n))
    go (inl q) f' =
        let s = tally_same f g n (λ j k. h j (λ p. omega arith)) in
        let x : one_if (f n) ≡ 0 = ap (λ (y : ℕ). one_if (f y)) (sym q) ∙ ap one_if a in
        let y : one_if (g n) ≡ 1 = ap (λ (y : ℕ). one_if (g y)) (sym q) ∙ ap one_if b in
        omega arith
    go (inr m) f' = let r = f' (omega arith) in let e = ap one_if (h n (λ p. m (sym p))) in omega arith

pub tally_none : (n : ℕ) → tally (λ _. false) n ≡ 0
tally_none zero = refl
tally_none (suc n) = let r = tally_none n in omega arith

line_tally : (q : List RuleEnd) (n : ℕ) → Once q → ((e : ℕ) → waits q e ≡ true → e < n) → tally (waits q) n ≡ length q
line_tally [] n o b = tally_none n
line_tally (r ∷ q) n o b =
    let t = tally_more (waits q) (waits (r ∷ q)) (place r) n (b (place r) (or_left _ _ (eq-eqb (place r) (place r) refl))) o.0 (or_left _ _ (eq-eqb (place r) (place r) refl))
    (λ j m. sym (ap (λ (x : Bool). x || waits q j) (ne_eqb (place r) j (λ p. m (sym p))))) in
    t ∙ ap suc (line_tally q n o.1 (λ e h. b e (or_right _ _ h)))

-- ends that wait once and lie below n are at most n
pub line_few : (q : List RuleEnd) (n : ℕ) → Once q → ((e : ℕ) → waits q e ≡ true → e < n) → length q ≤ n
line_few q n o b = let t = line_tally q n o b in let m = tally_most (waits q) n in omega arith

-- a line after one more end
pub line_push : (rules : ℕ) (q : List RuleEnd) (marks marks' : List ℕ) (r : RuleEnd) → Line rules q marks → r.rule < rules → marked marks (place r) ≡ false
    → ((j : ℕ) → marked marks' j ≡ (marked marks j || eqb j (place r))) → Line rules (q ++ r ∷ []) marks'
line_push rules q marks marks' r l b n m = record {
  same = λ e. waits_push q r e ∙ ap (λ (x : Bool). x || eqb e (place r)) (l.same e) ∙ sym (m e);
  once = once_push q r l.once (l.same (place r) ∙ n);
  below = λ e h. elim (or_cases (waits q e) (eqb e (place r)) (sym (waits_push q r e) ∙ h)) [
    | inl k ↦ l.below e k
    | inr k ↦ let p = eqb-true e (place r) k in let z = end_below rules r.rule r.second b in omega arith
  ];
}
  where
    end_below : (n i : ℕ) (s : Bool) → i < n → at_end i s < 2 * n
    end_below n i true h = omega arith
    end_below n i false h = omega arith

-- there is a place for it
pub line_room : (rules : ℕ) (q : List RuleEnd) (marks : List ℕ) (r : RuleEnd) → Line rules q marks → r.rule < rules → marked marks (place r) ≡ false → length q < 2 * rules
line_room rules q marks r l b n =
    let w = once_push q r l.once (l.same (place r) ∙ n) in
    let f = line_few (q ++ r ∷ []) (2 * rules) w (λ e h. elim (or_cases (waits q e) (eqb e (place r)) (sym (waits_push q r e) ∙ h)) [
      | inl k ↦ l.below e k
      | inr k ↦ let p = eqb-true e (place r) k in let z = end_below rules r.rule r.second b in omega arith
    ]) in
    omega (arith, length_push q r, f)
  where
    end_below : (n i : ℕ) (s : Bool) → i < n → at_end i s < 2 * n
    end_below n i true h = omega arith
    end_below n i false h = omega arith

-- a line after its first end is taken
pub line_rest : (rules : ℕ) (q : List RuleEnd) (marks marks' : List ℕ) (r : RuleEnd) → Line rules (r ∷ q) marks
    → ((j : ℕ) → marked marks' j ≡ (marked marks j && not (eqb j (place r)))) → Line rules q marks'
line_rest rules q marks marks' r l m = record {
  same = λ e. here e (cases_eq e (place r));
  once = l.once.1;
  below = λ e h. l.below e (or_right _ _ h);
}
  where
    here : (e : ℕ) → (e ≡ place r) ⊎ (e ≡ place r → ⊥) → waits q e ≡ marked marks' e
    here e (inl p) = ap (waits q) p ∙ l.once.0 ∙ sym (m e ∙ and_off (marked marks e) (not (eqb e (place r))) (ap not (eq-eqb e (place r) p)))
      where
        and_off : (x y : Bool) → y ≡ false → (x && y) ≡ false
        and_off true y h = h
        and_off false y h = refl
    here e (inr n) = sym (m e ∙ sym (and_same (marked marks e) (not (eqb e (place r))) (ap not (ne_eqb e (place r) n))) ∙ sym (l.same e) ∙ ap (λ (x : Bool). x || waits q e) (ne_eqb (place r) e (λ p. n (sym p))))

-- the first end is marked, and of a rule
pub first_marked : (rules : ℕ) (q : List RuleEnd) (marks : List ℕ) (r : RuleEnd) → Line rules (r ∷ q) marks → marked marks (place r) ≡ true
first_marked rules q marks r l = sym (l.same (place r)) ∙ or_left _ _ (eq-eqb (place r) (place r) refl)

pub first_below : (rules : ℕ) (q : List RuleEnd) (marks : List ℕ) (r : RuleEnd) → Line rules (r ∷ q) marks → r.rule < rules
first_below rules q marks r l = let b = l.below (place r) (or_left _ _ (eq-eqb (place r) (place r) refl)) in omega arith

pub or_kept : (x y : Bool) → y ≡ true → x ≡ true → x ≡ (x || y)
or_kept true y e f = refl
or_kept false y e f = absurd (false≢true f)

pub or_already : (x y : Bool) → (y ≡ true → x ≡ true) → x ≡ (x || y)
or_already true y f = refl
or_already false true f = f refl
or_already false false f = refl

pub line_split : (rules : ℕ) (p q : List RuleEnd) (marks : List ℕ) (r : RuleEnd) → p ≡ r ∷ q → Line rules p marks → Line rules (r ∷ q) marks
line_split rules p q marks r e l = subst (λ (x : List RuleEnd). Line rules x marks) e l

pub place_below : (rules : ℕ) (r : RuleEnd) → r.rule < rules → place r < 2 * rules
place_below rules r h = go r.second
  where
    go : (s : Bool) → at_end r.rule s < 2 * rules
    go true = omega arith
    go false = omega arith
