-- What the look at one rule end gives. Assumes nothing.
use Rattle.std.proofs.Common.{◌≡◌, ℕ, ◌<◌, Bool, true, false, ◌≢◌, List, length, get_or, set, Some, None, Option, sym, ap, ◌∙◌, subst, inl, inr, arith}
use Rattle.std.proofs.lemmas.Bool.{cases_eq}
use Rattle.std.proofs.lemmas.List.{length-set, get_or-set_same}
use Rattle.rules.specs.Meanings.{Meaning, Apart}
use Rattle.rules.specs.Channels.{has}
use Rattle.model.specs.Remains.{Family, family}
use Rattle.rules.specs.Supports.{near, far, allows, Kept}
use Rattle.propagation.specs.Supports.{Supported, Inside}
use Rattle.propagation.proofs.Steps.{at_same, at_other}

pub same_some : (o : Option (ℕ × ℕ)) (x y : ℕ × ℕ) → o ≡ Some x → o ≡ Some y → x ≡ y
same_some o x y p q = cc

-- an end of a rule that has none
pub none_supported : (m : Meaning) (k : Family) (i : ℕ) (s : Bool) → m.ends i ≡ None → Supported m k i s
none_supported m k i s n e h = absurd (let z : ◌≡◌ {A = ℕ} 0 1 = cc in omega arith)

pub near_apart : (n : ℕ) (s : Bool) (e : ℕ × ℕ) → Apart n e → (near s e < n) × (far s e < n) × (far s e ≢ near s e)
near_apart n true e a = (a.1, a.0, a.2)
near_apart n false e a = (a.0, a.1, λ h. a.2 (sym h))

module _ (m : Meaning) (ms : List ℕ) (i : ℕ) (s : Bool) (x : ℕ × ℕ) (k : ℕ) (is : m.ends i ≡ Some x) (here : near s x < length ms) (apart : far s x ≢ near s x)
    (kept : Kept m i s (get_or ms (near s x) 0) (get_or ms (far s x) 0) k) where
  pub revise_within : (l : Family) → Supported m l i s → Inside l (family ms) → Inside l (family (set ms (near s x) k))
  revise_within l sup ins g c h = elim (cases_eq g (near s x)) [
    | inl q ↦ at q
    | inr n ↦ at_other ms (near s x) k here g c n ∙ ins g c h
  ]
    where
      at : g ≡ near s x → family (set ms (near s x) k) g c ≡ true
      at q =
          let h' : l (near s x) c ≡ true = subst (λ (y : ℕ). l y c ≡ true) q h in
          let t = sup x is c h' in
          let r : has k c ≡ true = kept.all c (ins (near s x) c h') (t.0, ins (far s x) t.0 t.1, t.2) in
          subst (λ (y : ℕ). family (set ms (near s x) k) y c ≡ true) (sym q) (at_same ms (near s x) k here c ∙ r)

  pub revise_done : Supported m (family (set ms (near s x) k)) i s
  revise_done e h a p =
      subst (λ (y : ℕ × ℕ). family (set ms (near s x) k) (near s y) a ≡ true → (b : ℕ) × (family (set ms (near s x) k) (far s y) b ≡ true) × (allows m i s a b ≡ true)) (same_some (m.ends i) x e is h) at p
    where
      at : family (set ms (near s x) k) (near s x) a ≡ true → (b : ℕ) × (family (set ms (near s x) k) (far s x) b ≡ true) × (allows m i s a b ≡ true)
      at q =
          let t = kept.backed a (sym (at_same ms (near s x) k here a) ∙ q) in
          (t.0, at_other ms (near s x) k here (far s x) t.0 apart ∙ t.1, t.2)

-- the same as the code has it
module _ (m : Meaning) (ms ms' : List ℕ) (i : ℕ) (s : Bool) (x : ℕ × ℕ) (n f k : ℕ) (is : m.ends i ≡ Some x) (en : n ≡ near s x) (ef : f ≡ far s x)
    (apart : Apart m.groups x) (size : length ms ≡ m.groups) (kept : Kept m i s (get_or ms n 0) (get_or ms f 0) k) (left : ms' ≡ set ms n k) where
  left_at : ms' ≡ set ms (near s x) k
  left_at = left ∙ ap (λ (y : ℕ). set ms y k) en

  kept_at : Kept m i s (get_or ms (near s x) 0) (get_or ms (far s x) 0) k
  kept_at = subst (λ (y : ℕ). Kept m i s (get_or ms (near s x) 0) (get_or ms y 0) k) ef (subst (λ (y : ℕ). Kept m i s (get_or ms y 0) (get_or ms f 0) k) en kept)

  pub looked_within : (l : Family) → Supported m l i s → Inside l (family ms) → Inside l (family ms')
  looked_within l sup ins =
      let a = near_apart m.groups s x apart in
      subst (λ (y : List ℕ). Inside l (family y)) (sym left_at) (revise_within m ms i s x k is (omega (arith, a.0, size)) a.2 kept_at l sup ins)

  pub looked_done : Supported m (family ms') i s
  looked_done =
      let a = near_apart m.groups s x apart in
      subst (λ (y : List ℕ). Supported m (family y) i s) (sym left_at) (revise_done m ms i s x k is (omega (arith, a.0, size)) a.2 kept_at)

  pub looked_dead : k ≡ 0 → (g : ℕ) × (g < length ms') × (get_or ms' g 0 ≡ 0)
  looked_dead z =
      let a = near_apart m.groups s x apart in
      let h : n < length ms = omega (arith, a.0, size, en) in
      (n, omega (arith, ap length left, length-set ms n k), ap (λ (y : List ℕ). get_or y n 0) left ∙ get_or-set_same ms n k 0 h ∙ z)
