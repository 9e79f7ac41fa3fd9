-- Chains of rule ends, made end by end. Assumes nothing.
use Rattle.std.proofs.Common.{◌≡◌, ℕ, ◌+◌, ◌*◌, ◌/◌, ◌%◌, ◌<◌, ◌≤◌, Bool, true, false, eqb, List, length, get_or, set, Option, Some, None, sym, refl, ap, ◌∙◌, subst, inl, inr, arith}
use Rattle.std.proofs.lemmas.Bool.{cases_eq, cases_lt, eq-eqb, ne_eqb, both_ways}
use Rattle.std.proofs.lemmas.List.{get_or-set_same, get_or-set_other, length-set}
use Rattle.rules.specs.Meanings.{Meaning, Lawful}
use Rattle.propagation.specs.declared.desk.Desk.{Desk}
use Rattle.propagation.specs.Waiting.{queued}
use Rattle.propagation.specs.Waits.{one_if, at_end, waits}
use Rattle.propagation.specs.Supports.{Still}
use Rattle.propagation.specs.Desks.{Step}
use Rattle.rules.specs.Supports.{far}
use Rattle.propagation.specs.Chains.{link, Below}
use Rattle.propagation.specs.Wires.{Facing, Chained, Wired}
use Rattle.propagation.proofs.Chaining.{chains_same, chains_none, chains_skip, chains_more}
use Rattle.propagation.proofs.Revising.{same_some}
use Rattle.propagation.proofs.Turning.{same_end}

-- an end has one group across
pub one_facing : (m : Meaning) (g h n : ℕ) → Facing m g n → Facing m h n → g ≡ h
one_facing m g h n (i, s, x, p, e, f) (j, t, y, q, d, k) =
    let z = same_end i j s t (sym p ∙ q) in
    let d' : m.ends i ≡ Some y = subst (λ (r : ℕ). m.ends r ≡ Some y) (sym z.0) d in
    let xy = same_some (m.ends i) x y e d' in
    sym f ∙ ap (λ (r : ℕ × ℕ). far s r) xy ∙ ap (λ (r : Bool). far r y) z.1 ∙ k

-- an end of a rule is that of one of the count
pub facing_below : (m : Meaning) → Lawful m → (g n : ℕ) → Facing m g n → n < 2 * m.count
facing_below m law g n (i, s, x, p, e, f) = elim (cases_lt i m.count) [
  | inl l ↦ (let z = ends_below i m.count s l in omega arith)
  | inr l ↦ absurd (let y = law.past i l in let z : ◌≡◌ {A = ℕ} 0 1 = cc in omega arith)
]
  where
    ends_below : (i k : ℕ) (s : Bool) → i < k → at_end i s < 2 * k
    ends_below i k true l = omega arith
    ends_below i k false l = omega arith

-- nothing is in the chains at first
pub chained_none : (m : Meaning) (wires : List (Option ℕ)) → ((i : ℕ) → get_or wires i None ≡ None) → Chained m 0 wires
chained_none m wires z = chains_none (Below (Facing m) 0) (λ g. link wires (8192 + g)) (link wires) (λ g n r. omega (arith, r.1)) (λ g. z (8192 + g))

-- an end that has no group across is passed over
pub chained_skip : (m : Meaning) (k : ℕ) (wires : List (Option ℕ)) → ((g : ℕ) → Facing m g k → ⊥) → Chained m k wires → Chained m (k + 1) wires
chained_skip m k wires none c = chains_skip (Facing m) k (λ g. link wires (8192 + g)) (link wires) none c

module _ (m : Meaning) (k g : ℕ) (wires : List (Option ℕ)) (size : length wires ≡ 8392) (small : g < 200) (low : k < 8192) (here : Facing m g k) (c : Chained m k wires) where
  abbrev before : Option ℕ
  before = get_or wires (8192 + g) None

  abbrev first : List (Option ℕ)
  first = set wires k before

  abbrev chained : List (Option ℕ)
  chained = set first (8192 + g) (Some k)

  at_group : get_or chained (8192 + g) None ≡ Some k
  at_group = get_or-set_same first (8192 + g) (Some k) None (let z = length-set wires k before in omega arith)

  at_other : (h : ℕ) → (h ≡ g → ⊥) → get_or chained (8192 + h) None ≡ get_or wires (8192 + h) None
  at_other h n = get_or-set_other first (8192 + g) (8192 + h) (Some k) None (λ q. n (omega arith)) ∙ get_or-set_other wires k (8192 + h) before None (λ q. omega arith)

  at_end_same : get_or chained k None ≡ before
  at_end_same = get_or-set_other first (8192 + g) k (Some k) None (λ q. omega arith) ∙ get_or-set_same wires k before None (omega arith)

  at_end_other : (n : ℕ) → n < k → get_or chained n None ≡ get_or wires n None
  at_end_other n l = get_or-set_other first (8192 + g) n (Some k) None (λ q. omega arith) ∙ get_or-set_other wires k n before None (λ q. omega arith)

  pub chained_more : Chained m (k + 1) chained
  chained_more =
      chains_more (Facing m) k g (λ h. link wires (8192 + h)) (link wires) (λ h. link chained (8192 + h)) (link chained) here (λ h f. one_facing m h g k f here) at_group at_other at_end_same at_end_other c

-- once all ends of the book are in
pub chained_wired : (m : Meaning) → Lawful m → (k : ℕ) (wires : List (Option ℕ)) → length wires ≡ 8392 → m.groups ≤ 200 → m.count ≤ 4096 → k ≡ 2 * m.count → Chained m k wires → Wired m wires
chained_wired m law k wires size groups rules e c = record {
  size = size;
  groups = groups;
  rules = rules;
  chains = chains_same (Below (Facing m) k) (Facing m) (λ g. link wires (8192 + g)) (link wires) (λ g n r. r.0) (λ g n f. (f, below g n f)) c;
}
  where
    below : (g n : ℕ) → Facing m g n → n < k
    below g n f = let z = facing_below m law g n f in omega arith

pub facing_none : (m : Meaning) (i : ℕ) (s : Bool) → m.ends i ≡ None → (g : ℕ) → Facing m g (at_end i s) → ⊥
facing_none m i s n g (j, t, x, p, e, f) =
    let z = same_end i j s t p in
    let d : m.ends i ≡ Some x = subst (λ (r : ℕ). m.ends r ≡ Some x) (sym z.0) e in
    let y : ◌≡◌ {A = ℕ} 0 1 = cc in
    omega arith

-- the end that a number stands for
pub number_end : (e : ℕ) → at_end (e / 2) (eqb (e % 2) 1) ≡ e
number_end e = elim (cases_eq (e % 2) 1) [
  | inl q ↦ (let z = ap one_if (eq-eqb (e % 2) 1 q) in omega arith)
  | inr n ↦ (let z = ap one_if (ne_eqb (e % 2) 1 n) in omega arith)
]

-- what waited before a step waits after it
pub step_still : (m : Meaning) {B : Type 0} (d e : Desk B) → Step m d e → Still (queued d.line.ends) (queued e.line.ends)
step_still m d e s n h = go (waits (queued e.line.ends) n) refl
  where
    go : (b : Bool) → waits (queued e.line.ends) n ≡ b → waits (queued e.line.ends) n ≡ true
    go true z = z
    go false z =
        let u = s.ends (n / 2) (eqb (n % 2) 1) (subst (λ (y : ℕ). waits (queued e.line.ends) y ≡ false) (sym (number_end n)) z) in
        absurd (both_ways (waits (queued d.line.ends) n) (subst (λ (y : ℕ). waits (queued d.line.ends) y ≡ false) (number_end n) u.0) h)
