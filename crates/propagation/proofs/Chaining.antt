-- Chains of numbers made number by number, and followed. Assumes nothing.
use Rattle.std.proofs.Common.{◌≡◌, ℕ, zero, suc, ◌+◌, ◌<◌, ◌≤◌, get_or, replicate, Option, Some, None, IfSome, IsSomeAnd, sym, refl, subst, inl, inr, arith}
use Rattle.std.proofs.lemmas.Bool.{cases_eq}
use Rattle.std.proofs.lemmas.Option.{IfSome_then}
use Rattle.propagation.specs.Chains.{Chains, Below}

pub nones : (n i : ℕ) → ◌≡◌ {A = Option ℕ} (get_or (replicate n None) i None) None
nones zero i = refl
nones (suc n) zero = refl
nones (suc n) (suc i) = nones n i

pub zeros : (n i : ℕ) → ◌≡◌ {A = ℕ} (get_or (replicate n 0) i 0) 0
zeros zero i = refl
zeros (suc n) zero = refl
zeros (suc n) (suc i) = zeros n i

-- chains of one relation are those of another that says the same
pub chains_same : (R S : ℕ → ℕ → Type 0) (top below : ℕ → Option ℕ) → ((v p : ℕ) → R v p → S v p) → ((v p : ℕ) → S v p → R v p) → Chains R top below → Chains S top below
chains_same R S top below there back c = record {
  last = λ v p r. c.last v p (back v p r);
  head = λ v. IfSome_then (top v) (c.head v) (λ e r. there v e r);
  next = λ v p j r t. c.next v p j (back v p r) (back v j t);
  down = λ v p r. IfSome_then (below p) (c.down v p (back v p r)) (λ e t. (t.0, there v e t.1));
}

-- nothing is in the chains at first
pub chains_none : (R : ℕ → ℕ → Type 0) (top below : ℕ → Option ℕ) → ((v p : ℕ) → R v p → ⊥) → ((v : ℕ) → top v ≡ None) → Chains R top below
chains_none R top below none z = record {
  last = λ v p r. absurd (none v p r);
  head = λ v. subst (λ (o : Option ℕ). IfSome o (R v)) (sym (z v)) tt;
  next = λ v p j r. absurd (none v p r);
  down = λ v p r. absurd (none v p r);
}

-- a number of no key is passed over
pub chains_skip : (R : ℕ → ℕ → Type 0) (k : ℕ) (top below : ℕ → Option ℕ) → ((v : ℕ) → R v k → ⊥) → Chains (Below R k) top below → Chains (Below R (k + 1)) top below
chains_skip R k top below none c = chains_same (Below R k) (Below R (k + 1)) top below (λ v p r. (r.0, omega (arith, r.1))) (λ v p r. (r.0, lower v p r.0 r.1)) c
  where
    lower : (v p : ℕ) → R v p → p < k + 1 → p < k
    lower v p r l = elim (cases_eq p k) [ inl q ↦ absurd (none v (subst (R v) q r)) | inr d ↦ omega arith ]

-- the number k goes in front of the chain of its key v
module _ (R : ℕ → ℕ → Type 0) (k v : ℕ) (top below top' below' : ℕ → Option ℕ) (here : R v k) (one : (w : ℕ) → R w k → w ≡ v)
    (at_key : top' v ≡ Some k) (at_other : (w : ℕ) → (w ≡ v → ⊥) → top' w ≡ top w) (at_number : below' k ≡ top v) (at_lower : (p : ℕ) → p < k → below' p ≡ below p) where
  lower : (w p : ℕ) → (w ≡ v → ⊥) → R w p → p < k + 1 → p < k
  lower w p d r l = elim (cases_eq p k) [ inl q ↦ absurd (d (one w (subst (R w) q r))) | inr e ↦ omega arith ]

  pub chains_more : Chains (Below R k) top below → Chains (Below R (k + 1)) top' below'
  chains_more c = record {
    last = λ w p r. elim (cases_eq w v) [
      | inl q ↦ subst (λ (x : ℕ). IsSomeAnd (top' x) (λ e. p ≤ e)) (sym q) (subst (λ (o : Option ℕ). IsSomeAnd o (λ e. p ≤ e)) (sym at_key) (omega (arith, r.1)))
      | inr d ↦ subst (λ (o : Option ℕ). IsSomeAnd o (λ e. p ≤ e)) (sym (at_other w d)) (c.last w p (r.0, lower w p d r.0 r.1))
    ];
    head = λ w. elim (cases_eq w v) [
      | inl q ↦ subst (λ (x : ℕ). IfSome (top' x) (Below R (k + 1) x)) (sym q) (subst (λ (o : Option ℕ). IfSome o (Below R (k + 1) v)) (sym at_key) (here, omega arith))
      | inr d ↦ subst (λ (o : Option ℕ). IfSome o (Below R (k + 1) w)) (sym (at_other w d)) (IfSome_then (top w) (c.head w) (λ e t. (t.0, omega (arith, t.1))))
    ];
    next = λ w p j r t l. elim (cases_eq p k) [
      | inl q ↦ subst (λ (x : ℕ). IsSomeAnd (below' x) (λ e. j ≤ e)) (sym q)
          (subst (λ (o : Option ℕ). IsSomeAnd o (λ e. j ≤ e)) (sym at_number) (c.last v j (subst (λ (x : ℕ). R x j) (one w (subst (R w) q r.0)) t.0, omega arith)))
      | inr d ↦ (let b : p < k = omega (arith, r.1) in subst (λ (o : Option ℕ). IsSomeAnd o (λ e. j ≤ e)) (sym (at_lower p b)) (c.next w p j (r.0, b) (t.0, omega arith) l))
    ];
    down = λ w p r. elim (cases_eq p k) [
      | inl q ↦ subst (λ (x : ℕ). IfSome (below' x) (λ e. (e < x) × Below R (k + 1) w e)) (sym q)
          (subst (λ (o : Option ℕ). IfSome o (λ e. (e < k) × Below R (k + 1) w e)) (sym at_number)
          (IfSome_then (top v) (subst (λ (x : ℕ). IfSome (top v) (Below R k x)) (sym (one w (subst (R w) q r.0))) (c.head v)) (λ e t. (t.1, (t.0, omega (arith, t.1))))))
      | inr d ↦ (let b : p < k = omega (arith, r.1) in
          subst (λ (o : Option ℕ). IfSome o (λ e. (e < p) × Below R (k + 1) w e)) (sym (at_lower p b)) (IfSome_then (below p) (c.down w p (r.0, b)) (λ e t. (t.0, (t.1.0, omega (arith, t.1.1))))))
    ];
  }

-- how much of a chain is left at most
abbrev pub left : Option ℕ → ℕ
left None = 0
left (Some e) = e + 1

pub left_below : (o p : Option ℕ) (e : ℕ) → o ≡ Some e → (F : ℕ → Type 0) → IfSome p (λ d. (d < e) × F d) → left p < left o
left_below o None e q F h = subst (λ (x : Option ℕ). 0 < left x) (sym q) (omega arith)
left_below o (Some d) e q F h = subst (λ (x : Option ℕ). d + 1 < left x) (sym q) (let z = h.0 in omega arith)

-- no number is both before n and not
pub above_below : (o : Option ℕ) (n : ℕ) → IsSomeAnd o (λ e. n ≤ e) → IfSome o (λ e. e < n) → ⊥
above_below None n h l = h
above_below (Some e) n h l = omega arith

-- none is what no number is
pub only_none : (o : Option ℕ) → ((x : ℕ) → o ≡ Some x → ⊥) → o ≡ None
only_none None k = refl
only_none (Some x) k = absurd (k x refl)
