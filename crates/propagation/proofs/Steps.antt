-- What taking channels away from one group does. Assumes nothing.
use Rattle.std.proofs.Common.{◌≡◌, ℕ, ◌+◌, ◌*◌, ◌^◌, ◌<◌, Bool, true, false, eqb, ◌≢◌, ◌⊎◌, List, length, get_or, set, IfSome, Some, sum, sym, refl, ap, ◌∙◌, subst, inl, inr, arith}
use Rattle.std.proofs.lemmas.List.Sums.{sum_by-set}
use Rattle.std.proofs.lemmas.Bool.{eqb-true, eqb-false, cases_eq, both_ways, or_cases, or_parts}
use Rattle.std.proofs.lemmas.List.{get_or-set_same, get_or-set_other, length-set}
use Rattle.rules.specs.Meanings.{Meaning, Lawful, Apart}
use Rattle.rules.specs.Channels.{has}
use Rattle.model.specs.Masks.{grp, chan}
use Rattle.model.specs.Remains.{family, Only, Alive}
use Rattle.model.proofs.Tests.{refuted}
use Rattle.propagation.specs.declared.records.RuleEnd.{RuleEnd}
use Rattle.propagation.specs.declared.records.Assignment.{Assignment}
use Rattle.propagation.specs.Waits.{waits, at_end}
use Rattle.propagation.specs.Waiting.{queued}
use Rattle.rules.specs.Supports.{near, far}
use Rattle.propagation.specs.Supports.{Supported, Inside, Still, Served}
use Rattle.propagation.specs.Settling.{assignment, noted, stands, Narrow, Settled, Noting}
use Rattle.propagation.specs.declared.desk.Desk.{Desk}
use Rattle.propagation.specs.Desks.{SameDesk, Step}
use Rattle.rules.proofs.Digits.{has_more}
use Rattle.propagation.proofs.Groups.{stands_push, noted_push, alone_push}

-- the groups of a rule that binds differ
pub ends_apart : (m : Meaning) → Lawful m → (i : ℕ) (e : ℕ × ℕ) → m.ends i ≡ Some e → Apart m.groups e
ends_apart m law i e h = subst (λ o. IfSome o (Apart m.groups)) h (law.apart i)

-- what waits goes on waiting
pub served_still : (m : Meaning) (g k i : ℕ) (q q' : List RuleEnd) → Still q q' → Served m g k i q → Served m g k i q'
served_still m g k i q q' still t s e h f = elim (t s e h f) [ inl w ↦ inl (still (at_end i s) w) | inr b ↦ inr b ]

module _ (ms : List ℕ) (g k : ℕ) (here : g < length ms) where
  -- the group, and every other
  pub at_same : (c : ℕ) → family (set ms g k) g c ≡ has k c
  at_same c = ap (λ (x : ℕ). has x c) (get_or-set_same ms g k 0 here)

  pub at_other : (h c : ℕ) → h ≢ g → family (set ms g k) h c ≡ family ms h c
  at_other h c n = ap (λ (x : ℕ). has x c) (get_or-set_other ms g h k 0 n)

  module _ (sub : (j : ℕ) → has k j ≡ true → has (get_or ms g 0) j ≡ true) where
    pub set_inside : Inside (family (set ms g k)) (family ms)
    set_inside h c e = go (cases_eq h g)
      where
        go : (h ≡ g) ⊎ (h ≡ g → ⊥) → family ms h c ≡ true
        go (inl q) =
            let e' : family (set ms g k) g c ≡ true = subst (λ (x : ℕ). family (set ms g k) x c ≡ true) q e in
            subst (λ (x : ℕ). family ms x c ≡ true) (sym q) (sub c (sym (at_same c) ∙ e'))
        go (inr n) = sym (at_other h c n) ∙ e

    module _ (fits : get_or ms g 0 < 2 ^ 64) (less : k < get_or ms g 0) (some : (c : ℕ) × (has k c ≡ true)) where
      -- the group kept two channels before, so it does not wait as settled
      pub not_standing : (s : List Assignment) → Settled ms s → stands s g ≡ false
      not_standing s st = refuted (stands s g) (λ h.
          let t = has_more k (get_or ms g 0) fits less in
          let e = st.narrow g h some.0 t.0 (sub some.0 some.1) t.1 in
          both_ways (has k t.0) t.2 (subst (λ (x : ℕ). has k x ≡ true) e some.1))

      narrow_other : (s : List Assignment) → Settled ms s → (h : ℕ) → stands s h ≡ true → Narrow (set ms g k) h
      narrow_other s st h e a b p q =
          let n : h ≢ g = λ z. both_ways (stands s h) (subst (λ (x : ℕ). stands s x ≡ false) (sym z) (not_standing s st)) e in
          st.narrow h e a b (sym (at_other h a n) ∙ p) (sym (at_other h b n) ∙ q)

      pub shrink_settled : (s s' : List Assignment) → Settled ms s → Noting g k s s' → Settled (set ms g k) s'
      shrink_settled s s' st (inl (e, two)) = subst (λ (x : List Assignment). Settled (set ms g k) x) (sym e) (record {
        alone = st.alone;
        below = λ h q. let b = st.below h q in let l = length-set ms g k in omega arith;
        narrow = narrow_other s st;
      })
      shrink_settled s s' st (inr (c, e, sole)) = subst (λ (x : List Assignment). Settled (set ms g k) x) (sym e) (record {
        alone = alone_push s (assignment g c) st.alone (not_standing s st);
        below = λ h q. elim (or_cases (stands s h) (eqb h g) (sym (stands_push s (assignment g c) h) ∙ q)) [
          | inl z ↦ (let b = st.below h z in let l = length-set ms g k in omega arith)
          | inr z ↦ (let b = eqb-true h g z in let l = length-set ms g k in omega arith)
        ];
        narrow = λ h q. elim (or_cases (stands s h) (eqb h g) (sym (stands_push s (assignment g c) h) ∙ q)) [
          | inl z ↦ narrow_other s st h z
          | inr z ↦ subst (λ (x : ℕ). Narrow (set ms g k) x) (sym (eqb-true h g z)) (λ a b p r. sole.1 a (sym (at_same a) ∙ p) ∙ sym (sole.1 b (sym (at_same b) ∙ r)))
        ];
      })

      only_back : (v : ℕ) → (grp v ≡ g → Only (family (set ms g k)) v → ⊥) → Only (family (set ms g k)) v → Only (family ms) v
      only_back v n o c e = elim (cases_eq (grp v) g) [
        | inl q ↦ absurd (n q o)
        | inr d ↦ o c (at_other (grp v) c d ∙ e)
      ]

      at_group : (v : ℕ) → grp v ≡ g → Only (family (set ms g k)) v → (c : ℕ) → has k c ≡ true → c ≡ chan v
      at_group v q o c e = o c (subst (λ (x : ℕ). family (set ms g k) x c ≡ true) (sym q) (at_same c ∙ e))

      pub shrink_assignments : (s s' : List Assignment) → Noting g k s s' → (v : ℕ) → noted s' v ≡ false → (noted s v ≡ false) × (Only (family (set ms g k)) v → Only (family ms) v)
      shrink_assignments s s' (inl (e, two)) v n = (
        subst (λ (x : List Assignment). noted x v ≡ false) e n,
        only_back v (λ q o. two.4 (at_group v q o two.0 two.2 ∙ sym (at_group v q o two.1 two.3))),
      )
      shrink_assignments s s' (inr (c, e, sole)) v n =
          let p = or_parts (noted s v) (eqb v (64 * g + c)) (sym (noted_push s (assignment g c) v) ∙ subst (λ (x : List Assignment). noted x v ≡ false) e n) in
          (p.0, only_back v (λ q o. let z = at_group v q o c sole.0 in eqb-false v (64 * g + c) p.1 (omega arith)))

      -- an end that has the group across is supported by what the group keeps, if it does not wait
      served_supported : (m : Meaning) (q' : List RuleEnd) → ((h c : ℕ) → family ms h c ≡ true → c < 64) → ((i : ℕ) → Served m g k i q')
          → (i : ℕ) (s : Bool) → waits q' (at_end i s) ≡ false → Supported m (family ms) i s → Supported m (family (set ms g k)) i s
      served_supported m q' narrow served i s n sup e h a p = elim (cases_eq (far s e) g) [
        | inl q ↦ elim (served i s e h q) [
          | inl w ↦ absurd (both_ways (waits q' (at_end i s)) n w)
          | inr b ↦ (let t = b a (narrow (near s e) a (set_inside (near s e) a p)) in
              (t.0, subst (λ (x : ℕ). family (set ms g k) x t.0 ≡ true) (sym q) (at_same t.0 ∙ t.1), t.2))
        ]
        | inr d ↦ (let t = sup e h a (set_inside (near s e) a p) in (t.0, at_other (far s e) t.0 d ∙ t.1, t.2))
      ]

      pub shrink_ends : (m : Meaning) (q q' : List RuleEnd) → Still q q' → ((h c : ℕ) → family ms h c ≡ true → c < 64) → ((i : ℕ) → Served m g k i q')
          → (i : ℕ) (s : Bool) → waits q' (at_end i s) ≡ false → (waits q (at_end i s) ≡ false) × (Supported m (family ms) i s → Supported m (family (set ms g k)) i s)
      shrink_ends m q q' still narrow served i s n = (
        refuted (waits q (at_end i s)) (λ h. both_ways (waits q' (at_end i s)) n (still (at_end i s) h)),
        served_supported m q' narrow served i s n,
      )

      pub shrink_falls : sum (set ms g k) < sum ms
      shrink_falls = let e = sum_by-set (λ x. x) ms g k 0 here in omega arith

pub set_alive : (ms : List ℕ) (g k : ℕ) → g < length ms → (c : ℕ) × (has k c ≡ true) → Alive ms (family ms) → Alive (set ms g k) (family (set ms g k))
set_alive ms g k here some alive h l = elim (cases_eq h g) [
  | inl q ↦ subst (λ (x : ℕ). (c : ℕ) × (family (set ms g k) x c ≡ true)) (sym q) (some.0, at_same ms g k here some.0 ∙ some.1)
  | inr d ↦ (let t = alive h (let z = length-set ms g k in omega arith) in (t.0, at_other ms g k here h t.0 d ∙ t.1))
]

pub step_same : (m : Meaning) {B : Type 0} (d : Desk B) → Step m d d
step_same m d = record {
  inside = λ g c e. e;
  ends = λ i s h. (h, λ u. u);
  assignments = λ v h. (h, λ o. o);
  falls = inl (refl, refl, refl);
}

pub step_then : (m : Meaning) {B : Type 0} (d e f : Desk B) → Step m d e → Step m e f → Step m d f
step_then m d e f s t = record {
  inside = λ g c h. s.inside g c (t.inside g c h);
  ends = λ i b h. let u = t.ends i b h in let v = s.ends i b u.0 in (v.0, λ w. u.1 (v.1 w));
  assignments = λ v h. let u = t.assignments v h in let w = s.assignments v u.0 in (w.0, λ o. w.1 (u.1 o));
  falls = both s.falls t.falls;
}
  where
    both : ((e.domains.now ≡ d.domains.now) × ((queued e.line.ends) ≡ (queued d.line.ends)) × ((queued e.settled) ≡ (queued d.settled))) ⊎ (sum e.domains.now < sum d.domains.now)
        → ((f.domains.now ≡ e.domains.now) × ((queued f.line.ends) ≡ (queued e.line.ends)) × ((queued f.settled) ≡ (queued e.settled))) ⊎ (sum f.domains.now < sum e.domains.now)
        → ((f.domains.now ≡ d.domains.now) × ((queued f.line.ends) ≡ (queued d.line.ends)) × ((queued f.settled) ≡ (queued d.settled))) ⊎ (sum f.domains.now < sum d.domains.now)
    both (inl p) (inl q) = inl (q.0 ∙ p.0, q.1 ∙ p.1, q.2 ∙ p.2)
    both (inl p) (inr q) = inr (let z = ap sum p.0 in omega arith)
    both (inr p) (inl q) = inr (let z = ap sum q.0 in omega arith)
    both (inr p) (inr q) = inr (omega arith)

pub same_then : {B : Type 0} (d e f : Desk B) → SameDesk d e → SameDesk e f → SameDesk d f
same_then d e f s t = record {
  book = t.book ∙ s.book;
  wires = t.wires ∙ s.wires;
  spreads = t.spreads ∙ s.spreads;
  base = t.base ∙ s.base;
  index = t.index ∙ s.index;
  domains = t.domains ∙ s.domains;
  groups = t.groups ∙ s.groups;
  line = record { places = t.line.places ∙ s.line.places; marks = t.line.marks ∙ s.line.marks; size = t.line.size ∙ s.line.size; rules = t.line.rules ∙ s.line.rules };
  settled = t.settled ∙ s.settled;
  slots = t.slots ∙ s.slots;
}
