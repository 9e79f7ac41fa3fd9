-- There is a largest family: what is left once channels that a condition rejects are taken away, one by one. And the conditions are closed under union.
use Rattle.std.proofs.Common.{◌≡◌, ℕ, zero, suc, ◌+◌, ◌*◌, ◌<◌, ◌≤◌, Bool, true, false, cond, not, ◌&&◌, ◌||◌, eqb, ltb, ◌≢◌, ◌⊎◌, List, [], ◌∷◌, length, get_or, Some, None, Option, sym, refl, subst, inl, inr, not-suc-le-zero, arith}
use Rattle.std.specs.List.{AllByRecursion}
use Rattle.std.proofs.lemmas.Bool.{and_parts, and_from, and_cases, or_cases, or_parts, or_from, or_left, or_right, ltb-true, lt-ltb, eqb-true, eq-eqb, eqb-false, ne_eqb, not_from_false, false≢true, both_ways, cases_eq}
use Rattle.rules.specs.Channels.{has}
use Rattle.rules.specs.Plans.{Listed}
use Rattle.model.specs.Masks.{grp, chan}
use Rattle.model.specs.Lists.{all, any}
use Rattle.rules.specs.Meanings.{Meaning, Lawful}
use Rattle.rules.proofs.Bindings.{binding}
use Rattle.model.specs.Decisions.{Decision, taken, refused}
use Rattle.model.specs.Remains.{Family, Only, Gone, Obeys, Heeds, Meets, Remains}
use Rattle.model.proofs.Tests.{refuted}

-- Some number below n passes.
abbrev among : (ℕ → Bool) → ℕ → Bool
among p zero = false
among p (suc n) = p n || among p n

among_from : (p : ℕ → Bool) (n i : ℕ) → i < n → p i ≡ true → among p n ≡ true
among_from p zero i l e = absurd (not-suc-le-zero l)
among_from p (suc n) i l e = elim (cases_eq i n) [ inl q ↦ or_left (p n) (among p n) (rw q at e) | inr q ↦ or_right (p n) (among p n) (among_from p n i (omega arith) e) ]

among_is : (p : ℕ → Bool) (n : ℕ) → among p n ≡ true → (i : ℕ) × (i < n) × (p i ≡ true)
among_is p zero e = absurd (false≢true e)
among_is p (suc n) e = go (or_cases (p n) (among p n) e) (among_is p n)
  where
    go : (p n ≡ true) ⊎ (among p n ≡ true) → (among p n ≡ true → (i : ℕ) × (i < n) × (p i ≡ true)) → (i : ℕ) × (i < suc n) × (p i ≡ true)
    go (inl h) f = (n, omega arith, h)
    go (inr h) f = let r = f h in (r.0, omega (arith, r.1), r.2)

not_is : (b : Bool) → not b ≡ true → b ≡ false
not_is true e = absurd (false≢true e)
not_is false e = refl

not_not : (b : Bool) → not b ≡ false → b ≡ true
not_not true e = refl
not_not false e = absurd (false≢true (sym e))

-- What rejects channel c of group g where k is what is still kept.
abbrev clashes : ℕ → ℕ → Decision → Bool
clashes g c (taken w) = eqb (grp w) g && not (eqb c (chan w))
clashes g c (refused w) = eqb (grp w) g && eqb (chan w) c

-- The rule permits channel c of its first group with no channel kept across, and so for the second.
abbrev lonely_first : Family → (ℕ → ℕ → Bool) → ℕ → ℕ → Bool
lonely_first k p h c = not (among (λ b. k h b && p c b) 64)

abbrev lonely_second : Family → (ℕ → ℕ → Bool) → ℕ → ℕ → Bool
lonely_second k p g c = not (among (λ a. k g a && p a c) 64)

abbrev lonely : Family → (ℕ → ℕ → Bool) → ℕ → ℕ → Option (ℕ × ℕ) → Bool
lonely k p g c None = false
lonely k p g c (Some e) = (eqb e.0 g && lonely_first k p e.1 c) || (eqb e.1 g && lonely_second k p e.0 c)

-- The group of the assignment keeps no other channel.
abbrev settled : Family → ℕ → Bool
settled k v = not (among (λ c. k (grp v) c && not (eqb c (chan v))) 64)

abbrev bars : Family → ℕ → ℕ → List ℕ → ℕ → Bool
bars k g c nogood w = (eqb (grp w) g && eqb (chan w) c) && all (λ v. eqb v w || settled k v) nogood

module _ (book : Meaning) (base : List (List ℕ)) (branch : List Decision) where
  abbrev bad : Family → ℕ → ℕ → Bool
  bad k g c =
      any (clashes g c) branch
      || (among (λ i. lonely k (book.permits i) g c (book.ends i)) book.count
      || any (λ nogood. any (bars k g c nogood) nogood) base)

  -- A family that meets the conditions, within k, has nothing that is rejected.
  module _ (lists : List ℕ) (lawful : Lawful book) (k j : Family) (within : (g c : ℕ) → j g c ≡ true → k g c ≡ true) (m : Meets lists book base branch j) (g c : ℕ) (h : j g c ≡ true) where
    no_clash : (ds : List Decision) → AllByRecursion (Obeys j) ds → any (clashes g c) ds ≡ true → ⊥
    no_clash [] o e = false≢true e
    no_clash (taken w ∷ ds) o e = elim (or_cases (clashes g c (taken w)) (any (clashes g c) ds) e) [
      | inl t ↦ (let p = and_parts (eqb (grp w) g) (not (eqb c (chan w))) t in
          let q = eqb-true (grp w) g p.0 in
          eqb-false c (chan w) (not_is (eqb c (chan w)) p.1) (o.0 c (rw q h)))
      | inr t ↦ no_clash ds o.1 t
    ]
    no_clash (refused w ∷ ds) o e = elim (or_cases (clashes g c (refused w)) (any (clashes g c) ds) e) [
      | inl t ↦ (let p = and_parts (eqb (grp w) g) (eqb (chan w) c) t in
          both_ways (j g c) (rw (eqb-true (grp w) g p.0, eqb-true (chan w) c p.1) at o.0) h)
      | inr t ↦ no_clash ds o.1 t
    ]

    not_lonely_first : (i a b : ℕ) → book.ends i ≡ Some (a, b) → a ≡ g → lonely_first k (book.permits i) b c ≡ true → ⊥
    not_lonely_first i a b e q t =
        let r = m.across i a b c e (rw q h) in
        let small = (m.within b r.0 r.1).channel in
        both_ways (among (λ b'. k b b' && book.permits i c b') 64) (not_is _ t)
        (among_from (λ b'. k b b' && book.permits i c b') 64 r.0 small (and_from (k b r.0) (book.permits i c r.0) (within b r.0 r.1) r.2))

    not_lonely_second : (i a b : ℕ) → book.ends i ≡ Some (a, b) → b ≡ g → lonely_second k (book.permits i) a c ≡ true → ⊥
    not_lonely_second i a b e q t =
        let r = m.back i a b c e (rw q h) in
        let small = (m.within a r.0 r.1).channel in
        both_ways (among (λ a'. k a a' && book.permits i a' c) 64) (not_is _ t)
        (among_from (λ a'. k a a' && book.permits i a' c) 64 r.0 small (and_from (k a r.0) (book.permits i r.0 c) (within a r.0 r.1) r.2))

    not_lonely : (i : ℕ) (o : Option (ℕ × ℕ)) → book.ends i ≡ o → lonely k (book.permits i) g c o ≡ true → ⊥
    not_lonely i None e t = false≢true t
    not_lonely i (Some p) e t = elim (or_cases (eqb p.0 g && lonely_first k (book.permits i) p.1 c) (eqb p.1 g && lonely_second k (book.permits i) p.0 c) t) [
      | inl u ↦ (let q = and_parts (eqb p.0 g) (lonely_first k (book.permits i) p.1 c) u in not_lonely_first i p.0 p.1 e (eqb-true p.0 g q.0) q.1)
      | inr u ↦ (let q = and_parts (eqb p.1 g) (lonely_second k (book.permits i) p.0 c) u in not_lonely_second i p.0 p.1 e (eqb-true p.1 g q.0) q.1)
    ]

    -- Where k keeps no other channel of the group, neither does j.
    only_within : (v : ℕ) → settled k v ≡ true → Only j v
    only_within v t a q = elim (cases_eq a (chan v)) [
      | inl e ↦ e
      | inr e ↦ absurd (both_ways (among (λ c'. k (grp v) c' && not (eqb c' (chan v))) 64) (not_is _ t)
          (among_from (λ c'. k (grp v) c' && not (eqb c' (chan v))) 64 a (m.within (grp v) a q).channel
          (and_from (k (grp v) a) (not (eqb a (chan v))) (within (grp v) a q) (not_from_false (eqb a (chan v)) (ne_eqb a (chan v) e)))))
    ]

    others : (w : ℕ) (vs : List ℕ) → all (λ v. eqb v w || settled k v) vs ≡ true → AllByRecursion (λ v. v ≢ w → Only j v) vs
    others w [] e = tt
    others w (v ∷ vs) e =
        let p = and_parts (eqb v w || settled k v) (all (λ v. eqb v w || settled k v) vs) e in
        ((λ ne. elim (or_cases (eqb v w) (settled k v) p.0) [ inl t ↦ absurd (ne (eqb-true v w t)) | inr t ↦ only_within v t ]), others w vs p.1)

    not_barred : (nogood ws : List ℕ) → AllByRecursion (λ w. AllByRecursion (λ v. v ≢ w → Only j v) nogood → Gone j w) ws → any (bars k g c nogood) ws ≡ true → ⊥
    not_barred nogood [] o e = false≢true e
    not_barred nogood (w ∷ ws) o e = elim (or_cases (bars k g c nogood w) (any (bars k g c nogood) ws) e) [
      | inl t ↦ (let p = and_parts (eqb (grp w) g && eqb (chan w) c) (all (λ v. eqb v w || settled k v) nogood) t in
          let q = and_parts (eqb (grp w) g) (eqb (chan w) c) p.0 in
          both_ways (j g c) (rw (eqb-true (grp w) g q.0, eqb-true (chan w) c q.1) at (o.0 (others w nogood p.1))) h)
      | inr t ↦ not_barred nogood ws o.1 t
    ]

    none_barred : (ns : List (List ℕ)) → AllByRecursion (Heeds j) ns → any (λ nogood. any (bars k g c nogood) nogood) ns ≡ true → ⊥
    none_barred [] o e = false≢true e
    none_barred (n ∷ ns) o e = elim (or_cases (any (bars k g c n) n) (any (λ nogood. any (bars k g c nogood) nogood) ns) e) [
      | inl t ↦ not_barred n n o.0 t
      | inr t ↦ none_barred ns o.1 t
    ]

    not_bad : bad k g c ≡ true → ⊥
    not_bad e = elim (or_cases (any (clashes g c) branch) (among (λ i. lonely k (book.permits i) g c (book.ends i)) book.count || any (λ nogood. any (bars k g c nogood) nogood) base) e) [
      | inl t ↦ no_clash branch m.decided t
      | inr t ↦ elim (or_cases (among (λ i. lonely k (book.permits i) g c (book.ends i)) book.count) (any (λ nogood. any (bars k g c nogood) nogood) base) t) [
        | inl u ↦ (let r = among_is (λ i. lonely k (book.permits i) g c (book.ends i)) book.count u in not_lonely r.0 (book.ends r.0) refl r.2)
        | inr u ↦ none_barred base m.heeded u
      ]
    ]

  -- A family within the lists with nothing rejected meets the conditions.
  module _ (lists : List ℕ) (lawful : Lawful book) (k : Family) (within : (g c : ℕ) → k g c ≡ true → Listed lists g c) (fine : (g c : ℕ) → k g c ≡ true → bad k g c ≡ false) where
    fine_parts : (g c : ℕ) → k g c ≡ true
        → (any (clashes g c) branch ≡ false) × (among (λ i. lonely k (book.permits i) g c (book.ends i)) book.count ≡ false) × (any (λ nogood. any (bars k g c nogood) nogood) base ≡ false)
    fine_parts g c h =
        let p = or_parts (any (clashes g c) branch) (among (λ i. lonely k (book.permits i) g c (book.ends i)) book.count || any (λ nogood. any (bars k g c nogood) nogood) base) (fine g c h) in
        let q = or_parts (among (λ i. lonely k (book.permits i) g c (book.ends i)) book.count) (any (λ nogood. any (bars k g c nogood) nogood) base) p.1 in
        (p.0, q.0, q.1)

    obeys : (ds : List Decision) → ((g c : ℕ) → k g c ≡ true → any (clashes g c) ds ≡ false) → AllByRecursion (Obeys k) ds
    obeys [] f = tt
    obeys (taken w ∷ ds) f = (
      (λ c h. let p = (or_parts (clashes (grp w) c (taken w)) (any (clashes (grp w) c) ds) (f (grp w) c h)).0 in
          elim (and_cases (eqb (grp w) (grp w)) (not (eqb c (chan w))) p) [
            | inl e ↦ absurd (both_ways (eqb (grp w) (grp w)) e (eq-eqb (grp w) (grp w) refl))
            | inr e ↦ eqb-true c (chan w) (not_not (eqb c (chan w)) e)
          ]),
      obeys ds (λ g c h. (or_parts (clashes g c (taken w)) (any (clashes g c) ds) (f g c h)).1),
    )
    obeys (refused w ∷ ds) f = (
      refuted (k (grp w) (chan w)) (λ h. let p = (or_parts (clashes (grp w) (chan w) (refused w)) (any (clashes (grp w) (chan w)) ds) (f (grp w) (chan w) h)).0 in
          both_ways (eqb (grp w) (grp w) && eqb (chan w) (chan w)) p (and_from (eqb (grp w) (grp w)) (eqb (chan w) (chan w)) (eq-eqb (grp w) (grp w) refl) (eq-eqb (chan w) (chan w) refl))),
      obeys ds (λ g c h. (or_parts (clashes g c (refused w)) (any (clashes g c) ds) (f g c h)).1),
    )

    not_lonely_at : (i g c : ℕ) → i < book.count → k g c ≡ true → lonely k (book.permits i) g c (book.ends i) ≡ false
    not_lonely_at i g c l h = refuted _ (λ t. both_ways (among (λ i. lonely k (book.permits i) g c (book.ends i)) book.count) (fine_parts g c h).1
        (among_from (λ i. lonely k (book.permits i) g c (book.ends i)) book.count i l t))

    across : (i g h a : ℕ) → book.ends i ≡ Some (g, h) → k g a ≡ true → (b : ℕ) × (k h b ≡ true) × (book.permits i a b ≡ true)
    across i g h a e q =
        let t : lonely k (book.permits i) g a (Some (g, h)) ≡ false = subst (λ o. lonely k (book.permits i) g a o ≡ false) e (not_lonely_at i g a (binding book lawful i g h e).counted q) in
        let u = (or_parts (eqb g g && lonely_first k (book.permits i) h a) (eqb h g && lonely_second k (book.permits i) g a) t).0 in
        let f : lonely_first k (book.permits i) h a ≡ false = elim (and_cases (eqb g g) (lonely_first k (book.permits i) h a) u) [ inl x ↦ absurd (both_ways (eqb g g) x (eq-eqb g g refl)) | inr x ↦ x ] in
        let r = among_is (λ b. k h b && book.permits i a b) 64 (not_not _ f) in
        let p = and_parts (k h r.0) (book.permits i a r.0) r.2 in
        (r.0, p.0, p.1)

    back : (i g h b : ℕ) → book.ends i ≡ Some (g, h) → k h b ≡ true → (a : ℕ) × (k g a ≡ true) × (book.permits i a b ≡ true)
    back i g h b e q =
        let t : lonely k (book.permits i) h b (Some (g, h)) ≡ false = subst (λ o. lonely k (book.permits i) h b o ≡ false) e (not_lonely_at i h b (binding book lawful i g h e).counted q) in
        let u = (or_parts (eqb g h && lonely_first k (book.permits i) h b) (eqb h h && lonely_second k (book.permits i) g b) t).1 in
        let f : lonely_second k (book.permits i) g b ≡ false = elim (and_cases (eqb h h) (lonely_second k (book.permits i) g b) u) [ inl x ↦ absurd (both_ways (eqb h h) x (eq-eqb h h refl)) | inr x ↦ x ] in
        let r = among_is (λ a. k g a && book.permits i a b) 64 (not_not _ f) in
        let p = and_parts (k g r.0) (book.permits i r.0 b) r.2 in
        (r.0, p.0, p.1)

    only_settled : (v : ℕ) → Only k v → settled k v ≡ true
    only_settled v o = not_from_false _ (refuted _ (λ t.
        let r = among_is (λ c. k (grp v) c && not (eqb c (chan v))) 64 t in
        let p = and_parts (k (grp v) r.0) (not (eqb r.0 (chan v))) r.2 in
        eqb-false r.0 (chan v) (not_is _ p.1) (o r.0 p.0)))

    others_settled_lem : (w : ℕ) (vs : List ℕ) → AllByRecursion (λ v. v ≢ w → Only k v) vs → all (λ v. eqb v w || settled k v) vs ≡ true
    others_settled_lem w [] o = refl
    others_settled_lem w (v ∷ vs) o =
        and_from (eqb v w || settled k v) (all (λ v. eqb v w || settled k v) vs)
        (elim (cases_eq v w) [ inl e ↦ or_left (eqb v w) (settled k v) (eq-eqb v w e) | inr e ↦ or_right (eqb v w) (settled k v) (only_settled v (o.0 e)) ])
        (others_settled_lem w vs o.1)

    heeds : (nogood ws : List ℕ) → ((g c : ℕ) → k g c ≡ true → any (bars k g c nogood) ws ≡ false) → AllByRecursion (λ w. AllByRecursion (λ v. v ≢ w → Only k v) nogood → Gone k w) ws
    heeds nogood [] f = tt
    heeds nogood (w ∷ ws) f = (
      (λ o. refuted (k (grp w) (chan w)) (λ h.
          both_ways (bars k (grp w) (chan w) nogood w) (or_parts (bars k (grp w) (chan w) nogood w) (any (bars k (grp w) (chan w) nogood) ws) (f (grp w) (chan w) h)).0
          (and_from (eqb (grp w) (grp w) && eqb (chan w) (chan w)) (all (λ v. eqb v w || settled k v) nogood)
          (and_from (eqb (grp w) (grp w)) (eqb (chan w) (chan w)) (eq-eqb (grp w) (grp w) refl) (eq-eqb (chan w) (chan w) refl)) (others_settled_lem w nogood o)))),
      heeds nogood ws (λ g c h. (or_parts (bars k g c nogood w) (any (bars k g c nogood) ws) (f g c h)).1),
    )

    heeds_all : (ns : List (List ℕ)) → ((g c : ℕ) → k g c ≡ true → any (λ nogood. any (bars k g c nogood) nogood) ns ≡ false) → AllByRecursion (Heeds k) ns
    heeds_all [] f = tt
    heeds_all (n ∷ ns) f = (
      heeds n n (λ g c h. (or_parts (any (bars k g c n) n) (any (λ nogood. any (bars k g c nogood) nogood) ns) (f g c h)).0),
      heeds_all ns (λ g c h. (or_parts (any (bars k g c n) n) (any (λ nogood. any (bars k g c nogood) nogood) ns) (f g c h)).1),
    )

    meets : Meets lists book base branch k
    meets = record {
      within = within;
      decided = obeys branch (λ g c h. (fine_parts g c h).0);
      across = across;
      back = back;
      heeded = heeds_all base (λ g c h. (fine_parts g c h).2);
    }

-- The highest number below n that passes.
abbrev pub find : (ℕ → Bool) → ℕ → Option ℕ
find p zero = None
find p (suc n) = cond (p n) (Some n) (find p n)

pub find_some : (p : ℕ → Bool) (n w : ℕ) → find p n ≡ Some w → (w < n) × (p w ≡ true)
find_some p zero w e = absurd (let z : ◌≡◌ {A = ℕ} 0 1 = cc in omega arith)
find_some p (suc n) w e = go (p n) refl e (find_some p n w)
  where
    go : (b : Bool) → p n ≡ b → cond b (Some n) (find p n) ≡ Some w → (find p n ≡ Some w → (w < n) × (p w ≡ true)) → (w < suc n) × (p w ≡ true)
    go true f e ih = let q : n ≡ w = cc in (omega arith, rw q at f)
    go false f e ih = let r = ih e in (omega (arith, r.0), r.1)

pub find_none : (p : ℕ → Bool) (n : ℕ) → find p n ≡ None → (w : ℕ) → w < n → p w ≡ false
find_none p zero e w l = absurd (not-suc-le-zero l)
find_none p (suc n) e w l = go (p n) refl e (find_none p n)
  where
    go : (b : Bool) → p n ≡ b → cond b (Some n) (find p n) ≡ None → (find p n ≡ None → (w : ℕ) → w < n → p w ≡ false) → p w ≡ false
    go true f e ih = absurd (let z : ◌≡◌ {A = ℕ} 0 1 = cc in omega arith)
    go false f e ih = elim (cases_eq w n) [ inl q ↦ rw q f | inr q ↦ ih e w (omega arith) ]

-- How many assignments below n are kept.
abbrev number : Family → ℕ → ℕ
number k zero = 0
number k (suc n) = cond (k (grp n) (chan n)) 1 0 + number k n

-- The family without an assignment.
abbrev without : ℕ → Family → Family
without w k g c = k g c && not (eqb (grp w) g && eqb (chan w) c)

without_keeps : (w : ℕ) (k : Family) (g c : ℕ) → without w k g c ≡ true → k g c ≡ true
without_keeps w k g c e = (and_parts (k g c) (not (eqb (grp w) g && eqb (chan w) c)) e).0

same_word : (v w : ℕ) → grp w ≡ grp v → chan w ≡ chan v → v ≡ w
same_word v w e f = omega arith

cond_le : (a b : Bool) (x y : ℕ) → (a ≡ true → b ≡ true) → x ≤ y → cond a 1 0 + x ≤ cond b 1 0 + y
cond_le true true x y f l = omega arith
cond_le true false x y f l = absurd (false≢true (f refl))
cond_le false true x y f l = omega arith
cond_le false false x y f l = omega arith

number_le : (w : ℕ) (k : Family) (n : ℕ) → number (without w k) n ≤ number k n
number_le w k zero = omega arith
number_le w k (suc n) = cond_le (without w k (grp n) (chan n)) (k (grp n) (chan n)) (number (without w k) n) (number k n) (without_keeps w k (grp n) (chan n)) (number_le w k n)

gone_now : (w : ℕ) (k : Family) → without w k (grp w) (chan w) ≡ false
gone_now w k = refuted _ (λ t. let p = and_parts (k (grp w) (chan w)) (not (eqb (grp w) (grp w) && eqb (chan w) (chan w))) t in
    both_ways (eqb (grp w) (grp w) && eqb (chan w) (chan w)) (not_is _ p.1) (and_from (eqb (grp w) (grp w)) (eqb (chan w) (chan w)) (eq-eqb (grp w) (grp w) refl) (eq-eqb (chan w) (chan w) refl)))

cond_lt : (a b : Bool) (x y : ℕ) → a ≡ false → b ≡ true → x ≤ y → cond a 1 0 + x < cond b 1 0 + y
cond_lt true b x y e f l = absurd (false≢true (sym e))
cond_lt false true x y e f l = omega arith
cond_lt false false x y e f l = absurd (false≢true f)

cond_lt_later : (a b : Bool) (x y : ℕ) → (a ≡ true → b ≡ true) → x < y → cond a 1 0 + x < cond b 1 0 + y
cond_lt_later true true x y f l = omega arith
cond_lt_later true false x y f l = absurd (false≢true (f refl))
cond_lt_later false true x y f l = omega arith
cond_lt_later false false x y f l = omega arith

number_falls : (w : ℕ) (k : Family) (n : ℕ) → w < n → k (grp w) (chan w) ≡ true → number (without w k) n < number k n
number_falls w k zero l h = absurd (not-suc-le-zero l)
number_falls w k (suc n) l h = go (cases_eq w n) (number_falls w k n)
  where
    go : (w ≡ n) ⊎ (w ≡ n → ⊥) → (w < n → k (grp w) (chan w) ≡ true → number (without w k) n < number k n) → number (without w k) (suc n) < number k (suc n)
    go (inl e) ih = cond_lt (without w k (grp n) (chan n)) (k (grp n) (chan n)) (number (without w k) n) (number k n)
        (subst (λ (v : ℕ). without w k (grp v) (chan v) ≡ false) e (gone_now w k)) (subst (λ (v : ℕ). k (grp v) (chan v) ≡ true) e h) (number_le w k n)
    go (inr e) ih = cond_lt_later (without w k (grp n) (chan n)) (k (grp n) (chan n)) (number (without w k) n) (number k n) (without_keeps w k (grp n) (chan n)) (ih (omega arith) h)

number_some : (k : Family) (n w : ℕ) → w < n → k (grp w) (chan w) ≡ true → 1 ≤ number k n
number_some k zero w l h = absurd (not-suc-le-zero l)
number_some k (suc n) w l h = elim (cases_eq w n) [
  | inl e ↦ (let f : k (grp n) (chan n) ≡ true = subst (λ (v : ℕ). k (grp v) (chan v) ≡ true) e h in one (k (grp n) (chan n)) (number k n) f)
  | inr e ↦ (let r = number_some k n w (omega arith) h in omega arith)
]
  where
    one : (b : Bool) (x : ℕ) → b ≡ true → 1 ≤ cond b 1 0 + x
    one true x f = omega arith
    one false x f = absurd (false≢true f)

word_of : (n g c : ℕ) → g < n → c < 64 → (64 * g + c < 64 * n) × (grp (64 * g + c) ≡ g) × (chan (64 * g + c) ≡ c)
word_of n g c l m = (omega arith, omega arith, omega arith)

-- Take away an assignment that was found and go on, or end.
abbrev settle_on : Family → (Family → Family) → Option ℕ → Family
settle_on k next None = k
settle_on k next (Some w) = next (without w k)

module _ (lists : List ℕ) (book : Meaning) (base : List (List ℕ)) (branch : List Decision) where
  abbrev rejected : Family → ℕ → Bool
  rejected k w = k (grp w) (chan w) && bad book base branch k (grp w) (chan w)

  -- Take away what is rejected, so many times at most.
  abbrev settle : ℕ → Family → Family
  settle zero k = k
  settle (suc n) k = settle_on k (settle n) (find (rejected k) (64 * length lists))

  -- Within the lists, and above every family that meets the conditions.
  record Above (k : Family) : Type 0 where
    within : (g c : ℕ) → k g c ≡ true → Listed lists g c
    largest : (j : Family) → Meets lists book base branch j → (g c : ℕ) → j g c ≡ true → k g c ≡ true

  module _ (lawful : Lawful book) where
    above_less : (k : Family) (w : ℕ) → rejected k w ≡ true → Above k → Above (without w k)
    above_less k w e a = record {
      within = λ g c h. a.within g c (without_keeps w k g c h);
      largest = λ j m g c h. and_from (k g c) (not (eqb (grp w) g && eqb (chan w) c)) (a.largest j m g c h)
          (not_from_false (eqb (grp w) g && eqb (chan w) c) (refuted (eqb (grp w) g && eqb (chan w) c) (λ t.
          let p = and_parts (eqb (grp w) g) (eqb (chan w) c) t in
          let q = and_parts (k (grp w) (chan w)) (bad book base branch k (grp w) (chan w)) e in
          not_bad book base branch lists lawful k j (a.largest j m) m g c h (rw (eqb-true (grp w) g p.0, eqb-true (chan w) c p.1) at q.1))));
    }

    fine_all : (k : Family) → Above k → ((w : ℕ) → w < 64 * length lists → rejected k w ≡ false) → (g c : ℕ) → k g c ≡ true → bad book base branch k g c ≡ false
    fine_all k a f g c h =
        let l = a.within g c h in
        let w = word_of (length lists) g c l.group l.channel in
        let r : (k g c && bad book base branch k g c) ≡ false = rw (w.1, w.2) at (f (64 * g + c) w.0) in
        elim (and_cases (k g c) (bad book base branch k g c) r) [ inl e ↦ absurd (both_ways (k g c) e h) | inr e ↦ e ]

    settled_all : (n : ℕ) (k : Family) → Above k → number k (64 * length lists) ≤ n
        → Above (settle n k) × ((g c : ℕ) → settle n k g c ≡ true → bad book base branch (settle n k) g c ≡ false)
    settled_all zero k a l = (
      a,
      λ g c h.
          let m = a.within g c h in
          let w = word_of (length lists) g c m.group m.channel in
          let kept : k (grp (64 * g + c)) (chan (64 * g + c)) ≡ true = rw (w.1, w.2) h in
          let one = number_some k (64 * length lists) (64 * g + c) w.0 kept in
          absurd (omega arith),
    )
    settled_all (suc n) k a l = go (find (rejected k) (64 * length lists)) refl (settled_all n)
      where
        go : (o : Option ℕ) → find (rejected k) (64 * length lists) ≡ o
            → ((k : Family) → Above k → number k (64 * length lists) ≤ n → Above (settle n k) × ((g c : ℕ) → settle n k g c ≡ true → bad book base branch (settle n k) g c ≡ false))
            → Above (settle_on k (settle n) o) × ((g c : ℕ) → settle_on k (settle n) o g c ≡ true → bad book base branch (settle_on k (settle n) o) g c ≡ false)
        go None e ih = (a, fine_all k a (find_none (rejected k) (64 * length lists) e))
        go (Some w) e ih =
            let f = find_some (rejected k) (64 * length lists) w e in
            let kept = (and_parts (k (grp w) (chan w)) (bad book base branch k (grp w) (chan w)) f.1).0 in
            let less = number_falls w k (64 * length lists) f.0 kept in
            ih (without w k) (above_less k w f.1 a) (omega arith)

  -- The family of the lists.
  abbrev whole_lists : Family
  whole_lists g c = ltb g (length lists) && (ltb c 64 && has (get_or lists g 0) c)

  whole_above : Above whole_lists
  whole_above = record {
    within = λ g c h.
        let p = and_parts (ltb g (length lists)) (ltb c 64 && has (get_or lists g 0) c) h in
        let q = and_parts (ltb c 64) (has (get_or lists g 0) c) p.1 in
        record { group = ltb-true g (length lists) p.0; channel = ltb-true c 64 q.0; bit = q.1 };
    largest = λ j m g c h.
        let l = m.within g c h in
        and_from (ltb g (length lists)) (ltb c 64 && has (get_or lists g 0) c) (lt-ltb g (length lists) l.group)
        (and_from (ltb c 64) (has (get_or lists g 0) c) (lt-ltb c 64 l.channel) l.bit);
  }

  abbrev pub filtered : Family
  filtered = settle (number whole_lists (64 * length lists)) whole_lists

  pub filtered_remains : Lawful book → Remains lists book base branch filtered
  filtered_remains lawful =
      let r = settled_all lawful (number whole_lists (64 * length lists)) whole_lists whole_above (refl_le (number whole_lists (64 * length lists))) in
      record { meets = meets book base branch lists lawful filtered r.0.within r.1; largest = r.0.largest }
    where
      refl_le : (n : ℕ) → n ≤ n
      refl_le n = omega arith

-- The union of two families that meet the conditions meets them.
module _ (lists : List ℕ) (book : Meaning) (base : List (List ℕ)) (branch : List Decision) (k l : Family) (p : Meets lists book base branch k) (q : Meets lists book base branch l) where
  abbrev united : Family
  united g c = k g c || l g c

  -- What holds of a channel of either family holds of one of the union.
  of_either : {X : Type 0} (g c : ℕ) → united g c ≡ true → (k g c ≡ true → X) → (l g c ≡ true → X) → X
  of_either g c e f h = elim (or_cases (k g c) (l g c) e) [ inl t ↦ f t | inr t ↦ h t ]

  neither : (g c : ℕ) → k g c ≡ false → l g c ≡ false → united g c ≡ false
  neither g c e f = or_from (k g c) (l g c) e f

  united_obeys : (d : Decision) → Obeys k d → Obeys l d → Obeys united d
  united_obeys (taken w) o r = λ c e. of_either (grp w) c e (o c) (r c)
  united_obeys (refused w) o r = neither (grp w) (chan w) o r

  united_heeds : (nogood : List ℕ) → Heeds k nogood → Heeds l nogood → Heeds united nogood
  united_heeds nogood a b = go nogood a b
    where
      of_first : (w : ℕ) (vs : List ℕ) → AllByRecursion (λ v. v ≢ w → Only united v) vs → AllByRecursion (λ v. v ≢ w → Only k v) vs
      of_first w [] o = tt
      of_first w (v ∷ vs) o = ((λ ne c e. o.0 ne c (or_left (k (grp v) c) (l (grp v) c) e)), of_first w vs o.1)

      of_second : (w : ℕ) (vs : List ℕ) → AllByRecursion (λ v. v ≢ w → Only united v) vs → AllByRecursion (λ v. v ≢ w → Only l v) vs
      of_second w [] o = tt
      of_second w (v ∷ vs) o = ((λ ne c e. o.0 ne c (or_right (k (grp v) c) (l (grp v) c) e)), of_second w vs o.1)

      go : (ws : List ℕ) → AllByRecursion (λ w. AllByRecursion (λ v. v ≢ w → Only k v) nogood → Gone k w) ws → AllByRecursion (λ w. AllByRecursion (λ v. v ≢ w → Only l v) nogood → Gone l w) ws
          → AllByRecursion (λ w. AllByRecursion (λ v. v ≢ w → Only united v) nogood → Gone united w) ws
      go [] a b = tt
      go (w ∷ ws) a b = ((λ o. neither (grp w) (chan w) (a.0 (of_first w nogood o)) (b.0 (of_second w nogood o))), go ws a.1 b.1)

  join : {X : Type 0} (P Q R : X → Type 0) → ((x : X) → P x → Q x → R x) → (xs : List X) → AllByRecursion P xs → AllByRecursion Q xs → AllByRecursion R xs
  join P Q R f [] a b = tt
  join P Q R f (x ∷ xs) a b = (f x a.0 b.0, join P Q R f xs a.1 b.1)

  pub united_meets : Meets lists book base branch united
  united_meets = record {
    within = λ g c e. of_either g c e (p.within g c) (q.within g c);
    decided = join (Obeys k) (Obeys l) (Obeys united) united_obeys branch p.decided q.decided;
    across = λ i g h a e t. of_either g a t
        (λ u. let r = p.across i g h a e u in (r.0, or_left (k h r.0) (l h r.0) r.1, r.2))
        (λ u. let r = q.across i g h a e u in (r.0, or_right (k h r.0) (l h r.0) r.1, r.2));
    back = λ i g h b e t. of_either h b t
        (λ u. let r = p.back i g h b e u in (r.0, or_left (k g r.0) (l g r.0) r.1, r.2))
        (λ u. let r = q.back i g h b e u in (r.0, or_right (k g r.0) (l g r.0) r.1, r.2));
    heeded = join (Heeds k) (Heeds l) (Heeds united) united_heeds base p.heeded q.heeded;
  }
