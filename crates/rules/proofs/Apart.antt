-- What two channels across, or a set of them, support, in the books. Assumes nothing.
use Rattle.std.proofs.Common.{◌≡◌, ℕ, ◌+◌, ◌-◌, ◌*◌, ◌/◌, ◌<◌, ◌≤◌, Bool, true, false, ◌&&◌, ◌||◌, leb, ltb, min, ◌⊎◌, List, is_some, get_or, sym, ◌∙◌, inl, inr, arith}
use Rattle.std.proofs.lemmas.Bool.{and_parts, and_from, or_cases, or_left, or_right, leb-true, le-leb, ltb-true, lt-ltb, cond-true, cond-false, le-ltb, cases_lt, cases_eq, cases_Bool}
use Rattle.rules.specs.Channels.{has}
use Rattle.rules.specs.Meanings.{Meaning, most}
use Rattle.rules.specs.Gaps.{gaps, no_gap}
use Rattle.rules.specs.Joins.{joined}
use Rattle.rules.specs.Supports.{allows, Kept, Serves, Spread}
use Rattle.rules.specs.declared.gap.GapEntry.{GapEntry}
use Rattle.rules.proofs.Spreading.{Asked, serves_like, least_from, spread_bound}

-- a rule that says the same as another
module _ (m m' : Meaning) (i i' : ℕ) (ends : m.ends i ≡ m'.ends i') (permits : (a b : ℕ) → m.permits i a b ≡ m'.permits i' a b) where
  pub same_allows : (s : Bool) (a b : ℕ) → allows m i s a b ≡ allows m' i' s a b
  same_allows false a b = permits a b
  same_allows true a b = permits b a

  pub same_spread : (s : Bool) (w : ℕ) → Spread m' i' s w → Spread m i s w
  same_spread s w h = record {
    blank = λ e. h.blank (sym ends ∙ e);
    enough = λ n. serves_like (allows m' i' s) (allows m i s) (λ a b _ _. sym (same_allows s a b)) w (h.enough (λ e. n (ends ∙ e)));
    least = λ n v f. h.least (λ e. n (ends ∙ e)) v (λ _. serves_like (allows m i s) (allows m' i' s) (λ a b _ _. same_allows s a b) v (f n));
  }

-- the rules of a joined book
pub first_spread : (f t : Meaning) (i : ℕ) → i < f.count → (s : Bool) (w : ℕ) → Spread f i s w → Spread (joined f t) i s w
first_spread f t i l = same_spread (joined f t) f i i (cond-true _ _ _ (lt-ltb i f.count l)) (λ a b. cond-true _ _ _ (lt-ltb i f.count l))

pub second_spread : (f t : Meaning) (i : ℕ) → f.count ≤ i → i < most → (s : Bool) (w : ℕ) → Spread t (i - f.count) s w → Spread (joined f t) i s w
second_spread f t i l k = same_spread (joined f t) t i (i - f.count)
    (cond-false _ _ _ (le-ltb i f.count l) ∙ cond-true _ _ _ (lt-ltb i most k)) (λ a b. cond-false _ _ _ (le-ltb i f.count l) ∙ cond-true _ _ _ (lt-ltb i most k))

-- the channels that a rule with a gap permits
module _ (n : ℕ) (es : List GapEntry) (i : ℕ) (bound : is_some ((gaps n es).ends i) ≡ true) where
  abbrev gap : ℕ
  gap = (get_or es i no_gap).gap

  pub wide_allows : (s : Bool) (a b : ℕ) → a < 64 → b < 64 → (a + gap ≤ b) ⊎ (b + gap ≤ a) → allows (gaps n es) i s a b ≡ true
  wide_allows false a b k l w = and_from _ _ bound (and_from _ _ (lt-ltb a 64 k) (and_from _ _ (lt-ltb b 64 l)
      (elim w [ inl h ↦ or_left _ _ (le-leb (a + gap) b h) | inr h ↦ or_right _ _ (le-leb (b + gap) a h) ])))
  wide_allows true a b k l w = and_from _ _ bound (and_from _ _ (lt-ltb b 64 l) (and_from _ _ (lt-ltb a 64 k)
      (elim w [ inl h ↦ or_right _ _ (le-leb (a + gap) b h) | inr h ↦ or_left _ _ (le-leb (b + gap) a h) ])))

  pub allows_wide : (s : Bool) (a b : ℕ) → allows (gaps n es) i s a b ≡ true → (a < 64) × (b < 64) × ((a + gap ≤ b) ⊎ (b + gap ≤ a))
  allows_wide false a b h =
      let p = and_parts _ _ (and_parts _ _ h).1 in
      let q = and_parts _ _ p.1 in
      (ltb-true a 64 p.0, ltb-true b 64 q.0, elim (or_cases _ _ q.1) [ inl e ↦ inl (leb-true (a + gap) b e) | inr e ↦ inr (leb-true (b + gap) a e) ])
  allows_wide true a b h =
      let p = and_parts _ _ (and_parts _ _ h).1 in
      let q = and_parts _ _ p.1 in
      (ltb-true a 64 q.0, ltb-true b 64 p.0, elim (or_cases _ _ q.1) [ inl e ↦ inr (leb-true (b + gap) a e) | inr e ↦ inl (leb-true (a + gap) b e) ])

  -- of two channels across, twice the gap apart, less one, each channel is the gap away from one
  abbrev wide : ℕ
  wide = min (2 * gap - 1) 64

  pub wide_serves : (s : Bool) → Serves (allows (gaps n es) i s) wide
  wide_serves s a b c l r u = elim (cases_lt c (a + gap)) [
    | inl d ↦ or_left _ _ (wide_allows s a b l (omega arith) (elim (cases_lt a (b + gap)) [ inl f ↦ absurd (omega arith) | inr f ↦ inr f ]))
    | inr d ↦ or_right _ _ (wide_allows s a c l u (inl d))
  ]

  not_allowed : (s : Bool) (a b : ℕ) → ((a + gap ≤ b) ⊎ (b + gap ≤ a) → ⊥) → allows (gaps n es) i s a b ≡ false
  not_allowed s a b h = elim (cases_Bool (allows (gaps n es) i s a b)) [ inl e ↦ absurd (h (allows_wide s a b e).2) | inr e ↦ e ]

  pub wide_asked : (s : Bool) → Asked (allows (gaps n es) i s) wide
  wide_asked s = elim (cases_eq wide 0) [
    | inl e ↦ inl e
    | inr d ↦ inr (record {
      near = (wide - 1) / 2;
      low = 0;
      high = wide - 1;
      near_in = omega arith;
      apart = omega arith;
      high_in = omega arith;
      not_low = not_allowed s _ _ (λ w. elim w [ inl e ↦ omega arith | inr e ↦ omega arith ]);
      not_high = not_allowed s _ _ (λ w. elim w [ inl e ↦ omega arith | inr e ↦ omega arith ]);
    })
  ]

  pub wide_spread : (s : Bool) → Spread (gaps n es) i s wide
  wide_spread s = spread_bound (gaps n es) i s wide bound (least_from (allows (gaps n es) i s) wide (wide_serves s) (wide_asked s))

  -- what is far enough from the lowest channel across, or from the highest
  module _ (s : Bool) (set across low high kept : ℕ) (low_in : low < 64) (low_has : has across low ≡ true) (least : (j : ℕ) → has across j ≡ true → low ≤ j)
      (high_in : high < 64) (high_has : has across high ≡ true) (highest : (j : ℕ) → has across j ≡ true → j ≤ high)
      (is : (j : ℕ) → has kept j ≡ (has set j && ((leb (low + gap) j && ltb j 64) || ltb j (min (high + 1 - gap) 64)))) where
    pub far_kept : Kept (gaps n es) i s set across kept
    far_kept = record {
      inside = λ j h. (and_parts _ _ (sym (is j) ∙ h)).0;
      backed = λ j h. elim (or_cases _ _ (and_parts _ _ (sym (is j) ∙ h)).1) [
        | inl e ↦ (let p = and_parts _ _ e in let a = leb-true (low + gap) j p.0 in let l = ltb-true j 64 p.1 in (low, low_has, wide_allows s j low l low_in (inr a)))
        | inr e ↦ (let l = ltb-true j (min (high + 1 - gap) 64) e in (high, high_has, wide_allows s j high (omega (arith, l)) high_in (inl (omega (arith, l)))))
      ];
      all = λ j h t. let w = allows_wide s j t.0 t.2 in is j ∙ and_from _ _ h (elim w.2 [
        | inl e ↦ or_right _ _ (lt-ltb j (min (high + 1 - gap) 64) (let z = highest t.0 t.1 in let l = w.0 in omega (arith, e, z, l)))
        | inr e ↦ or_left _ _ (and_from _ _ (le-leb (low + gap) j (let z = least t.0 t.1 in omega (arith, e, z))) (lt-ltb j 64 w.0))
      ]);
    }
