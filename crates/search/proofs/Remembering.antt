-- What is kept of the branch through the moves.
use Rattle.std.proofs.Common.{◌≡◌, ℕ, ◌+◌, ◌-◌, ◌<◌, ◌≤◌, ◌≢◌, true, false, List, length, set, take, Some, None, sym, ap, ◌∙◌, subst, inl, inr, arith}
use Rattle.std.proofs.lemmas.Bool.{both_ways, cases_eq}
use Rattle.rules.specs.Meanings.{Meaning}
use Rattle.model.specs.Words.{branch_of, base_of}
use Rattle.model.proofs.Words.{write_past}
use Rattle.propagation.specs.Filtered.{Lives}
use Rattle.search.specs.declared.held.Progress.{Progress}
use Rattle.search.specs.declared.befores.Befores.{Befores}
use Rattle.search.specs.Turns.{closed_at, decided_at}
use Rattle.search.specs.Families.{place, kept, Keeps, Remembers}

-- nothing is kept
pub remembers_none : (lists : List ℕ) (book : Meaning) (p : Progress) (branch base domains : List ℕ) (b : Befores) → ((g : ℕ) → place b g ≡ None) → b.ready ≡ false → Remembers lists book p branch base domains b
remembers_none lists book p branch base domains b none unready = record {
  keeps = λ g q l h. absurd (let n = none g in let z : ◌≡◌ {A = ℕ} 0 1 = cc in omega arith);
  fresh = λ r. absurd (both_ways b.ready unready r);
}

-- no move was made
pub remembers_same : (lists : List ℕ) (book : Meaning) (p : Progress) (branch base domains : List ℕ) (b : Befores) → Keeps lists book p branch base b → b.ready ≡ false → Remembers lists book p branch base domains b
remembers_same lists book p branch base domains b k unready = record { keeps = k; fresh = λ r. absurd (both_ways b.ready unready r) }

-- the decision of group g at the place last is closed
module _ (lists : List ℕ) (book : Meaning) (p p' : Progress) (ws ws' base ds : List ℕ) (b b' : Befores) (g last v : ℕ) (here : g < 200)
    (numbers : p' ≡ closed_at last p) (words : ws' ≡ set ws last v) (k : Keeps lists book p ws base b)
    (ready : b'.ready ≡ true → (place b g ≡ Some last) × (take (length lists) ds ≡ kept (length lists) b g))
    (fewer : (h q : ℕ) → h < 200 → place b' h ≡ Some q → (place b h ≡ Some q) × (q < last)) (same : (n h : ℕ) → kept n b' h ≡ kept n b h) where
  -- what stands before the close is untouched
  before : (q : ℕ) → q ≤ last → (f : List ℕ) → Lives lists book (base_of (take p.base_used base)) (branch_of ws q) f → Lives lists book (base_of (take p'.base_used base)) (branch_of ws' q) f
  before q l f z =
      let e : branch_of ws' q ≡ branch_of ws q = ap (λ (xs : List ℕ). branch_of xs q) words ∙ write_past ws q last v l in
      let u : p'.base_used ≡ p.base_used = ap (λ (x : Progress). x.base_used) numbers in
      subst (λ (x : ℕ). Lives lists book (base_of (take x base)) (branch_of ws' q) f) (sym u) (subst (λ xs. Lives lists book (base_of (take p.base_used base)) xs f) (sym e) z)

  long : p'.branch_len ≡ last + 1
  long = ap (λ (x : Progress). x.branch_len) numbers

  pub remembers_closed : Remembers lists book p' ws' base ds b'
  remembers_closed = record {
    keeps = λ h q l s.
        let t = fewer h q l s in
        let z = k h q l t.0 in
        let w = t.1 in
        (omega (arith, w, long), subst (Lives lists book (base_of (take p'.base_used base)) (branch_of ws' q)) (sym (same (length lists) h)) (before q (omega arith) (kept (length lists) b h) z.1));
    fresh = λ r.
        let t = ready r in
        let z = k g last here t.0 in
        let less : p'.branch_len - 1 ≡ last = omega (arith, long) in
        record {
          some = omega (arith, long);
          before = subst (λ (j : ℕ). Lives lists book (base_of (take p'.base_used base)) (branch_of ws' j) (take (length lists) ds)) (sym less)
              (subst (Lives lists book (base_of (take p'.base_used base)) (branch_of ws' last)) (sym t.1) (before last (omega arith) (kept (length lists) b g) z.1));
        };
  }

-- group g is decided at the end of the branch
module _ (lists : List ℕ) (book : Meaning) (p p' : Progress) (ws ws' base ds : List ℕ) (b b' : Befores) (g v : ℕ) (few : length lists ≤ 200)
    (numbers : p' ≡ decided_at p) (words : ws' ≡ set ws p.branch_len v) (k : Keeps lists book p ws base b)
    (lives : Lives lists book (base_of (take p.base_used base)) (branch_of ws p.branch_len) (take (length lists) ds))
    (at : place b' g ≡ Some p.branch_len) (mine : kept (length lists) b' g ≡ take (length lists) ds)
    (others : (h : ℕ) → h ≢ g → (place b' h ≡ place b h) × ((n : ℕ) → kept n b' h ≡ kept n b h)) where
  still : (q : ℕ) → q ≤ p.branch_len → (f : List ℕ) → Lives lists book (base_of (take p.base_used base)) (branch_of ws q) f → Lives lists book (base_of (take p'.base_used base)) (branch_of ws' q) f
  still q l f z =
      let e : branch_of ws' q ≡ branch_of ws q = ap (λ (xs : List ℕ). branch_of xs q) words ∙ write_past ws q p.branch_len v l in
      let u : p'.base_used ≡ p.base_used = ap (λ (x : Progress). x.base_used) numbers in
      subst (λ (x : ℕ). Lives lists book (base_of (take x base)) (branch_of ws' q) f) (sym u) (subst (λ xs. Lives lists book (base_of (take p.base_used base)) xs f) (sym e) z)

  more : p'.branch_len ≡ p.branch_len + 1
  more = ap (λ (x : Progress). x.branch_len) numbers

  -- the family of the newest decision, and those before it
  newest : (q : ℕ) → place b' g ≡ Some q → q ≡ p.branch_len
  newest q s = cc

  pub remembers_decided : Remembers lists book p' ws' base ds b'
  remembers_decided = record {
    keeps = λ h q l s. elim (cases_eq h g) [
      | inl e ↦ (let s' : place b' g ≡ Some q = subst (λ (x : ℕ). place b' x ≡ Some q) e s in
          let n = newest q s' in (
            omega (arith, n, more),
            subst (λ (x : ℕ). Lives lists book (base_of (take p'.base_used base)) (branch_of ws' q) (kept (length lists) b' x)) (sym e)
                (subst (Lives lists book (base_of (take p'.base_used base)) (branch_of ws' q)) (sym mine) (subst (λ (x : ℕ). Lives lists book (base_of (take p'.base_used base)) (branch_of ws' x) (take (length lists) ds)) (sym n) (still p.branch_len (omega arith) _ lives))),
          ))
      | inr d ↦ (let o = others h d in
          let z = k h q l (sym o.0 ∙ s) in
          let w = z.0 in
          (omega (arith, w, more), subst (Lives lists book (base_of (take p'.base_used base)) (branch_of ws' q)) (sym (o.1 (length lists))) (still q (omega arith) (kept (length lists) b h) z.1)))
    ];
    fresh = λ _.
        let less : p'.branch_len - 1 ≡ p.branch_len = omega (arith, more) in
        record {
          some = omega (arith, more);
          before = subst (λ (j : ℕ). Lives lists book (base_of (take p'.base_used base)) (branch_of ws' j) (take (length lists) ds)) (sym less) (still p.branch_len (omega arith) _ lives);
        };
  }
