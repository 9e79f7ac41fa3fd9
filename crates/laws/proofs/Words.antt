-- The tests of a branch and of a base say what they should.
use Rattle.std.proofs.Common.{◌≡◌, ℕ, zero, suc, ◌<◌, ◌≤◌, Bool, true, false, not, ◌&&◌, eqb, ltb, ◌≢◌, List, [], ◌∷◌, ◌++◌, length, get_or, take, drop, Some, None, Option, sym, refl, ap, ◌∙◌, subst, arith}
use Rattle.std.specs.List.{AllByRecursion}
use Rattle.std.proofs.ByRecursion.{All-weaker}
use Rattle.std.proofs.lemmas.Bool.{and_parts, and_from, and_right, ltb-true, lt-ltb, eqb-false, ne_eqb, not_from_false, false≢true}
use Rattle.rules.specs.Channels.{has}
use Rattle.model.specs.Masks.{grp, chan}
use Rattle.model.specs.Lists.{all}
use Rattle.model.specs.Decisions.{Decision, taken, refused, word, Free, Assignment, Branch, Apart, Nogood}
use Rattle.model.specs.Words.{recorded}
use Rattle.model.proofs.Tests.{all-All, All-all}
use Rattle.laws.specs.Words.{listed?, free?, branch?, apart?, some?, nogood?, begin, add, cut, whole, whole_base, nogoods?, base?}

differ_false : (b : Bool) → not b ≡ true → b ≡ false
differ_false true e = absurd (false≢true e)
differ_false false e = refl

-- Numbers that the test tells apart are different.
tells_apart : (a b : ℕ) → not (eqb a b) ≡ true → a ≢ b
tells_apart a b e = eqb-false a b (differ_false (eqb a b) e)

apart_tells : (a b : ℕ) → a ≢ b → not (eqb a b) ≡ true
apart_tells a b h = not_from_false (eqb a b) (ne_eqb a b h)

below_64 : (w : ℕ) → chan w < 64
below_64 w = omega arith

module _ (lists : List ℕ) where
  pub is_listed : (w : ℕ) → listed? lists w ≡ true → Assignment lists w
  is_listed w e =
      let p = and_parts (ltb (grp w) (length lists)) (has (get_or lists (grp w) 0) (chan w)) e in
      record { group = ltb-true (grp w) (length lists) p.0; channel = below_64 w; bit = p.1 }

  pub listed_is : (w : ℕ) → Assignment lists w → listed? lists w ≡ true
  listed_is w f = and_from (ltb (grp w) (length lists)) (has (get_or lists (grp w) 0) (chan w)) (lt-ltb (grp w) (length lists) f.group) f.bit

pub is_free : (w : ℕ) (ds : List Decision) → free? w ds ≡ true → Free w ds
is_free w [] e = tt
is_free w (taken v ∷ ds) e = let p = and_parts (not (eqb (grp v) (grp w))) (free? w ds) e in (tells_apart (grp v) (grp w) p.0, is_free w ds p.1)
is_free w (refused v ∷ ds) e = let p = and_parts (not (eqb v w)) (free? w ds) e in (tells_apart v w p.0, is_free w ds p.1)

pub free_is : (w : ℕ) (ds : List Decision) → Free w ds → free? w ds ≡ true
free_is w [] f = refl
free_is w (taken v ∷ ds) f = and_from (not (eqb (grp v) (grp w))) (free? w ds) (apart_tells (grp v) (grp w) f.0) (free_is w ds f.1)
free_is w (refused v ∷ ds) f = and_from (not (eqb v w)) (free? w ds) (apart_tells v w f.0) (free_is w ds f.1)

module _ (lists : List ℕ) where
  pub is_branch : (ds : List Decision) → branch? lists ds ≡ true → Branch lists ds
  is_branch [] e = tt
  is_branch (d ∷ ds) e =
      let p = and_parts (listed? lists (word d)) (free? (word d) ds && branch? lists ds) e in
      let q = and_parts (free? (word d) ds) (branch? lists ds) p.1 in
      (is_listed lists (word d) p.0, is_free (word d) ds q.0, is_branch ds q.1)

  pub branch_is : (ds : List Decision) → Branch lists ds → branch? lists ds ≡ true
  branch_is [] b = refl
  branch_is (d ∷ ds) b =
      and_from (listed? lists (word d)) (free? (word d) ds && branch? lists ds) (listed_is lists (word d) b.0)
      (and_from (free? (word d) ds) (branch? lists ds) (free_is (word d) ds b.1) (branch_is ds b.2))

pub is_apart : (ws : List ℕ) → apart? ws ≡ true → Apart ws
is_apart [] e = tt
is_apart (w ∷ ws) e =
    let p = and_parts (all (λ v. not (eqb (grp w) (grp v))) ws) (apart? ws) e in
    (All-weaker (λ v. not (eqb (grp w) (grp v)) ≡ true) (λ v. grp w ≢ grp v) (λ v. tells_apart (grp w) (grp v)) ws (all-All (λ v. not (eqb (grp w) (grp v))) ws p.0), is_apart ws p.1)

pub apart_is : (ws : List ℕ) → Apart ws → apart? ws ≡ true
apart_is [] a = refl
apart_is (w ∷ ws) a =
    and_from (all (λ v. not (eqb (grp w) (grp v))) ws) (apart? ws)
    (All-all (λ v. not (eqb (grp w) (grp v))) ws (All-weaker (λ v. grp w ≢ grp v) (λ v. not (eqb (grp w) (grp v)) ≡ true) (λ v. apart_tells (grp w) (grp v)) ws a.0))
    (apart_is ws a.1)

is_some : (ws : List ℕ) → some? ws ≡ true → ws ≢ []
is_some [] e = absurd (false≢true e)
is_some (w ∷ ws) e = λ h. let z : ◌≡◌ {A = ℕ} 0 1 = cc in omega arith

some_is : (ws : List ℕ) → ws ≢ [] → some? ws ≡ true
some_is [] h = absurd (h refl)
some_is (w ∷ ws) h = refl

module _ (lists : List ℕ) where
  pub is_nogood : (ws : List ℕ) → nogood? lists ws ≡ true → Nogood lists ws
  is_nogood ws e =
      let p = and_parts (some? ws) (all (listed? lists) ws && apart? ws) e in
      let q = and_parts (all (listed? lists) ws) (apart? ws) p.1 in
      record {
        some = is_some ws p.0;
        listed = All-weaker (λ w. listed? lists w ≡ true) (Assignment lists) (is_listed lists) ws (all-All (listed? lists) ws q.0);
        apart = is_apart ws q.1;
      }

  pub nogood_is : (ws : List ℕ) → Nogood lists ws → nogood? lists ws ≡ true
  nogood_is ws n =
      and_from (some? ws) (all (listed? lists) ws && apart? ws) (some_is ws n.some)
      (and_from (all (listed? lists) ws) (apart? ws) (All-all (listed? lists) ws (All-weaker (Assignment lists) (λ w. listed? lists w ≡ true) (listed_is lists) ws n.listed)) (apart_is ws n.apart))

-- Reading what was recorded.

cut_words : (n rest : List ℕ) (ns : List (List ℕ)) → cut 0 rest ≡ Some ([], ns) → cut (length n) (n ++ rest) ≡ Some (n, ns)
cut_words [] rest ns e = e
cut_words (w ∷ n) rest ns e = ap (add w) (cut_words n rest ns e)

cut_recorded : (ns : List (List ℕ)) → cut 0 (recorded ns) ≡ Some ([], ns)
cut_recorded [] = refl
cut_recorded (n ∷ ns) = ap begin (cut_words n (recorded ns) ns (cut_recorded ns))

pub whole_recorded : (ns : List (List ℕ)) → whole_base (recorded ns) ≡ Some ns
whole_recorded ns = ap whole (cut_recorded ns)

no_parts : (p : List ℕ × List (List ℕ)) → ◌≡◌ {A = Option (List ℕ × List (List ℕ))} None (Some p) → ⊥
no_parts p e = let z : ◌≡◌ {A = ℕ} 0 1 = cc in omega arith

-- What is read gives the words back.
cut_back : (n : ℕ) (ws : List ℕ) (p : List ℕ × List (List ℕ)) → cut n ws ≡ Some p → (length p.0 ≡ n) × (ws ≡ p.0 ++ recorded p.1)
cut_back zero [] p e = let h : ◌≡◌ {A = List ℕ × List (List ℕ)} ([], []) p = cc in subst (λ (q : List ℕ × List (List ℕ)). (length q.0 ≡ 0) × ([] ≡ q.0 ++ recorded q.1)) h (refl, refl)
cut_back zero (w ∷ ws) p e = go (cut w ws) refl e (cut_back w ws)
  where
    go : (o : Option (List ℕ × List (List ℕ))) → cut w ws ≡ o → begin o ≡ Some p → ((r : List ℕ × List (List ℕ)) → cut w ws ≡ Some r → (length r.0 ≡ w) × (ws ≡ r.0 ++ recorded r.1))
        → (length p.0 ≡ 0) × (w ∷ ws ≡ p.0 ++ recorded p.1)
    go None f e ih = absurd (no_parts p e)
    go (Some r) f e ih =
        let h : ◌≡◌ {A = List ℕ × List (List ℕ)} ([], r.0 ∷ r.1) p = cc in
        let k = ih r f in
        let front : w ∷ ws ≡ recorded (r.0 ∷ r.1) = let a = k.0 in let b = k.1 in cc in
        subst (λ (q : List ℕ × List (List ℕ)). (length q.0 ≡ 0) × (w ∷ ws ≡ q.0 ++ recorded q.1)) h (refl, front)
cut_back (suc n) [] p e = absurd (no_parts p e)
cut_back (suc n) (w ∷ ws) p e = go (cut n ws) refl e (cut_back n ws)
  where
    go : (o : Option (List ℕ × List (List ℕ))) → cut n ws ≡ o → add w o ≡ Some p → ((r : List ℕ × List (List ℕ)) → cut n ws ≡ Some r → (length r.0 ≡ n) × (ws ≡ r.0 ++ recorded r.1))
        → (length p.0 ≡ suc n) × (w ∷ ws ≡ p.0 ++ recorded p.1)
    go None f e ih = absurd (no_parts p e)
    go (Some r) f e ih =
        let h : ◌≡◌ {A = List ℕ × List (List ℕ)} (w ∷ r.0, r.1) p = cc in
        let k = ih r f in
        subst (λ (q : List ℕ × List (List ℕ)). (length q.0 ≡ suc n) × (w ∷ ws ≡ q.0 ++ recorded q.1)) h (ap suc k.0, ap (λ (l : List ℕ). w ∷ l) k.1)

no_nogoods : (ns : List (List ℕ)) → ◌≡◌ {A = Option (List (List ℕ))} None (Some ns) → ⊥
no_nogoods ns e = let z : ◌≡◌ {A = ℕ} 0 1 = cc in omega arith

no_words : (n : List ℕ) → length n ≡ 0 → n ≡ []
no_words [] e = refl
no_words (w ∷ n) e = absurd (omega arith)

pub recorded_whole : (ws : List ℕ) (ns : List (List ℕ)) → whole_base ws ≡ Some ns → ws ≡ recorded ns
recorded_whole ws ns e = go (cut 0 ws) refl e (cut_back 0 ws)
  where
    go : (o : Option (List ℕ × List (List ℕ))) → cut 0 ws ≡ o → whole o ≡ Some ns → ((r : List ℕ × List (List ℕ)) → cut 0 ws ≡ Some r → (length r.0 ≡ 0) × (ws ≡ r.0 ++ recorded r.1))
        → ws ≡ recorded ns
    go None f e ih = absurd (no_nogoods ns e)
    go (Some r) f e ih =
        let k = ih r f in
        let n : r.0 ≡ [] = no_words r.0 k.0 in
        let h : r.1 ≡ ns = cc in
        k.1 ∙ ap (λ (l : List ℕ). l ++ recorded r.1) n ∙ ap recorded h

module _ (lists : List ℕ) where
  pub is_base : (ws : List ℕ) → base? lists ws ≡ true → (ns : List (List ℕ)) × (ws ≡ recorded ns) × AllByRecursion (Nogood lists) ns
  is_base ws e = go (whole_base ws) refl e
    where
      go : (o : Option (List (List ℕ))) → whole_base ws ≡ o → nogoods? lists o ≡ true → (ns : List (List ℕ)) × (ws ≡ recorded ns) × AllByRecursion (Nogood lists) ns
      go None f e = absurd (false≢true e)
      go (Some ns) f e = (ns, recorded_whole ws ns f, All-weaker (λ n. nogood? lists n ≡ true) (Nogood lists) (is_nogood lists) ns (all-All (nogood? lists) ns e))

  pub base_is : (ns : List (List ℕ)) → AllByRecursion (Nogood lists) ns → base? lists (recorded ns) ≡ true
  base_is ns h = ap (nogoods? lists) (whole_recorded ns) ∙ All-all (nogood? lists) ns (All-weaker (Nogood lists) (λ n. nogood? lists n ≡ true) (nogood_is lists) ns h)

-- For a loop over the base: one nogood, and then the rest.
cut_short : (n : ℕ) (ws : List ℕ) → length ws < n → cut n ws ≡ None
cut_short zero ws l = absurd (omega arith)
cut_short (suc n) [] l = refl
cut_short (suc n) (w ∷ ws) l = ap (add w) (cut_short n ws (omega arith))

abbrev after_words : List ℕ → Option (List ℕ × List (List ℕ)) → Option (List ℕ × List (List ℕ))
after_words n None = None
after_words n (Some p) = Some (n, p.1)

add_after : (w : ℕ) (n : List ℕ) (o : Option (List ℕ × List (List ℕ))) → add w (after_words n o) ≡ after_words (w ∷ n) o
add_after w n None = refl
add_after w n (Some p) = refl

first_part : (ws : List ℕ) (p : List ℕ × List (List ℕ)) → cut 0 ws ≡ Some p → p.0 ≡ []
first_part ws p e = no_words p.0 (cut_back 0 ws p e).0

after_none : (ws : List ℕ) (o : Option (List ℕ × List (List ℕ))) → cut 0 ws ≡ o → o ≡ after_words [] o
after_none ws None e = refl
after_none ws (Some p) e = let h = first_part ws p e in ap (λ (l : List ℕ). Some (l, p.1)) h

cut_take : (n : ℕ) (ws : List ℕ) → n ≤ length ws → cut n ws ≡ after_words (take n ws) (cut 0 (drop n ws))
cut_take zero ws l = after_none ws (cut 0 ws) refl
cut_take (suc n) [] l = absurd (omega arith)
cut_take (suc n) (w ∷ ws) l = ap (add w) (cut_take n ws (omega arith)) ∙ add_after w (take n ws) (cut 0 (drop n ws))

module _ (lists : List ℕ) where
  pub base_short : (n : ℕ) (ws : List ℕ) → length ws < n → base? lists (n ∷ ws) ≡ false
  base_short n ws l = ap (λ (o : Option (List ℕ × List (List ℕ))). nogoods? lists (whole (begin o))) (cut_short n ws l)

  step_on : (n : List ℕ) (o : Option (List ℕ × List (List ℕ))) → nogoods? lists (whole (begin (after_words n o))) ≡ (nogood? lists n && nogoods? lists (whole o))
  step_on n None = sym (and_right (nogood? lists n) false refl)
  step_on n (Some p) = refl

  pub base_step : (n : ℕ) (ws : List ℕ) → n ≤ length ws → base? lists (n ∷ ws) ≡ (nogood? lists (take n ws) && base? lists (drop n ws))
  base_step n ws l = ap (λ (o : Option (List ℕ × List (List ℕ))). nogoods? lists (whole (begin o))) (cut_take n ws l) ∙ step_on (take n ws) (cut 0 (drop n ws))
