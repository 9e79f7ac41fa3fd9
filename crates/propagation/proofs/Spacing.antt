-- What a group needs, over one end more. Assumes nothing.
use Rattle.std.proofs.Common.{◌≡◌, ℕ, ◌+◌, ◌<◌, ◌≤◌, Bool, true, false, ◌⊎◌, inl, inr, List, length, get_or, Some, None, sym, refl, subst, arith}
use Rattle.std.proofs.lemmas.Bool.{cases_lt, cases_eq}
use Rattle.rules.specs.Meanings.{Meaning, Lawful}
use Rattle.rules.specs.Supports.{far, Enough, Spread}
use Rattle.rules.proofs.Bindings.{binding}
use Rattle.propagation.specs.Spreads.{SpreadsBelow, Spreads}

module _ (m : Meaning) where
  binds : (i : ℕ) (e : ℕ × ℕ) → m.ends i ≡ Some e → m.ends i ≡ None → ⊥
  binds i e h n = let z : ◌≡◌ {A = ℕ} 0 1 = cc in omega arith

  wider : (i : ℕ) (s : Bool) (v w : ℕ) → v ≤ w → Enough m i s v → Enough m i s w
  wider i s v w l h n a b c k r u = h n a b c k (omega arith) u

  -- the same of the ends with P
  record Spaced (P : ℕ → Bool → Type 0) (ss : List ℕ) : Type 0 where
    enough : (i : ℕ) (s : Bool) (e : ℕ × ℕ) → P i s → m.ends i ≡ Some e → Enough m i s (get_or ss (far s e) 0)
    least : (g w : ℕ) → ((i : ℕ) (s : Bool) (e : ℕ × ℕ) → P i s → m.ends i ≡ Some e → far s e ≡ g → Enough m i s w) → get_or ss g 0 ≤ w

  -- one end more
  module _ (P : ℕ → Bool → Type 0) (ss ss' : List ℕ) (j : ℕ) (t : Bool) (x : ℕ × ℕ) (v : ℕ) (before : Spaced P ss) (is : m.ends j ≡ Some x) (spread : Spread m j t v)
      (more : (h : ℕ) → get_or ss h 0 ≤ get_or ss' h 0) (here : v ≤ get_or ss' (far t x) 0)
      (no_more : (get_or ss' (far t x) 0 ≡ v) ⊎ (get_or ss' (far t x) 0 ≡ get_or ss (far t x) 0))
      (others : (h : ℕ) → (h ≡ far t x → ⊥) → get_or ss' h 0 ≡ get_or ss h 0) where
    abbrev Also : ℕ → Bool → Type 0
    Also i s = P i s ⊎ ((i ≡ j) × (s ≡ t))

    one_enough : (i : ℕ) (s : Bool) (e : ℕ × ℕ) → Also i s → m.ends i ≡ Some e → Enough m i s (get_or ss' (far s e) 0)
    one_enough i s e (inl p) h = wider i s _ _ (more (far s e)) (before.enough i s e p h)
    one_enough i s e (inr q) h =
        let z : x ≡ e = (let u : m.ends j ≡ Some e = subst (λ (k : ℕ). m.ends k ≡ Some e) q.0 h in cc) in
        subst (λ (k : ℕ). Enough m k s (get_or ss' (far s e) 0)) (sym q.0)
        (subst (λ (b : Bool). Enough m j b (get_or ss' (far b e) 0)) (sym q.1)
        (subst (λ (y : ℕ × ℕ). Enough m j t (get_or ss' (far t y) 0)) z (wider j t v _ here spread.enough)))

    old_least : (g w : ℕ) → ((i : ℕ) (s : Bool) (e : ℕ × ℕ) → Also i s → m.ends i ≡ Some e → far s e ≡ g → Enough m i s w) → get_or ss g 0 ≤ w
    old_least g w h = before.least g w (λ i s e p k f. h i s e (inl p) k f)

    one_least : (g w : ℕ) → ((i : ℕ) (s : Bool) (e : ℕ × ℕ) → Also i s → m.ends i ≡ Some e → far s e ≡ g → Enough m i s w) → get_or ss' g 0 ≤ w
    one_least g w h = elim (cases_eq g (far t x)) [
      | inl e ↦ elim no_more [
        | inl q ↦ (let l = spread.least (binds j x is) w (h j t x (inr (refl, refl)) is (sym e)) in let z : get_or ss' g 0 ≡ v = rw e q in omega arith)
        | inr q ↦ (let l = old_least g w h in let z : get_or ss' g 0 ≡ get_or ss g 0 = rw e q in omega arith)
      ]
      | inr d ↦ (let l = old_least g w h in let z = others g d in omega arith)
    ]

    one_more : Spaced Also ss'
    one_more = record { enough = one_enough; least = one_least }

  -- no rule, and one rule more: a blank one, or one with both its ends
  pub spreads_none : (ss : List ℕ) → ((g : ℕ) → get_or ss g 0 ≡ 0) → SpreadsBelow m 0 ss
  spreads_none ss zero = record {
    enough = λ i s e l. absurd (omega arith);
    least = λ g w h. let z = zero g in omega arith;
  }

  pub spreads_blank : (ss : List ℕ) (k : ℕ) → m.ends k ≡ None → SpreadsBelow m k ss → SpreadsBelow m (k + 1) ss
  spreads_blank ss k n h = record {
    enough = λ i s e l r. elim (cases_lt i k) [
      | inl u ↦ h.enough i s e u r
      | inr u ↦ (let z : i ≡ k = omega arith in absurd (binds i e r (subst (λ (j : ℕ). m.ends j ≡ None) (sym z) n)))
    ];
    least = λ g w f. h.least g w (λ i s e l. f i s e (omega arith));
  }

  module _ (ss mid ss' : List ℕ) (k : ℕ) (x : ℕ × ℕ) (v w : ℕ) (h : SpreadsBelow m k ss) (is : m.ends k ≡ Some x) (one : Spread m k false v) (two : Spread m k true w)
      (more : (g : ℕ) → get_or ss g 0 ≤ get_or mid g 0) (here : v ≤ get_or mid x.1 0)
      (no_more : (get_or mid x.1 0 ≡ v) ⊎ (get_or mid x.1 0 ≡ get_or ss x.1 0)) (others : (g : ℕ) → (g ≡ x.1 → ⊥) → get_or mid g 0 ≡ get_or ss g 0)
      (more' : (g : ℕ) → get_or mid g 0 ≤ get_or ss' g 0) (here' : w ≤ get_or ss' x.0 0)
      (no_more' : (get_or ss' x.0 0 ≡ w) ⊎ (get_or ss' x.0 0 ≡ get_or mid x.0 0)) (others' : (g : ℕ) → (g ≡ x.0 → ⊥) → get_or ss' g 0 ≡ get_or mid g 0) where
    abbrev First : ℕ → Bool → Type 0
    First i s = (i < k) ⊎ ((i ≡ k) × (s ≡ false))

    abbrev Both : ℕ → Bool → Type 0
    Both i s = First i s ⊎ ((i ≡ k) × (s ≡ true))

    both : Spaced Both ss'
    both = one_more First mid ss' k true x w
        (one_more (λ i s. i < k) ss mid k false x v (record { enough = h.enough; least = h.least }) is one more here no_more others)
        is two more' here' no_more' others'

    counted : (i : ℕ) (s : Bool) → i < k + 1 → Both i s
    counted i s l = elim (cases_lt i k) [ inl u ↦ inl (inl u) | inr u ↦ (let z : i ≡ k = omega arith in end z s) ]
      where
        end : (i ≡ k) → (s : Bool) → Both i s
        end z false = inl (inr (z, refl))
        end z true = inr (z, refl)

    below : (i : ℕ) (s : Bool) → Both i s → i < k + 1
    below i s (inl (inl l)) = omega arith
    below i s (inl (inr e)) = omega (arith, e.0)
    below i s (inr e) = omega (arith, e.0)

    pub spreads_both : SpreadsBelow m (k + 1) ss'
    spreads_both = record {
      enough = λ i s e l. both.enough i s e (counted i s l);
      least = λ g u f. both.least g u (λ i s e p. f i s e (below i s p));
    }

  -- all rules
  pub spreads_all : Lawful m → (ss : List ℕ) → length ss ≡ 200 → m.groups ≤ 200 → SpreadsBelow m m.count ss → Spreads m ss
  spreads_all law ss size groups h = record {
    size = size;
    groups = groups;
    enough = λ i s e r. h.enough i s e (binding m law i e.0 e.1 r).counted r;
    least = λ g w f. h.least g w (λ i s e l. f i s e);
  }
