-- Decisions and their sets. Assumes nothing.
use Rattle.std.proofs.Common.{◌≡◌, ℕ, zero, suc, ◌/◌, ◌%◌, ◌^◌, ◌<◌, Bool, true, false, ◌&&◌, ◌||◌, eqb, ◌⊎◌, List, length, get_or, set, sym, refl, ap, ◌∙◌, subst, inl, inr, zero-add, arith}
use Rattle.std.specs.List.{AllByRecursion}
use Rattle.std.proofs.lemmas.Bool.{cases_eq, both_ways, and_parts, and_from, eqb-true, eq-eqb}
use Rattle.rules.specs.Channels.{has}
use Rattle.model.specs.Masks.{grp, chan}
use Rattle.model.specs.Decisions.{Decision, taken, refused}
use Rattle.model.specs.Words.{decision, branch_of}
use Rattle.model.specs.Remains.{Family, family, Only, Obeys}
use Rattle.model.proofs.Tests.{refuted}
use Rattle.propagation.specs.Supports.{Inside}
use Rattle.rules.proofs.Digits.{has_none, plus_has}
use Rattle.propagation.proofs.Steps.{at_same, at_other}

-- the set of one channel
pub sole_has : (c j : ℕ) → has (2 ^ c) j ≡ eqb j c
sole_has c j =
    ap (λ (x : ℕ). has x j) (sym (zero-add (2 ^ c))) ∙ plus_has 0 c (has_none c) j ∙ ap (λ (x : Bool). x || eqb j c) (has_none j)

pub and_given : (x y : Bool) → (y ≡ true → x ≡ true) → y ≡ (x && y)
and_given true y h = refl
and_given false true h = sym (h refl)
and_given false false h = refl

pub and_off : (x y : Bool) → (y ≡ true → x ≡ false) → false ≡ (x && y)
and_off true true h = sym (h refl)
and_off true false h = refl
and_off false y h = refl

-- obeying goes down
pub obeys_inside : (k l : Family) (d : Decision) → Inside k l → Obeys l d → Obeys k d
obeys_inside k l (taken w) ins o = λ c e. o c (ins (grp w) c e)
obeys_inside k l (refused w) ins o = refuted (k (grp w) (chan w)) (λ e. both_ways (l (grp w) (chan w)) o (ins (grp w) (chan w) e))

module _ (ms : List ℕ) (v r : ℕ) (here : v / 64 < length ms) (bits : (j : ℕ) → has r j ≡ (has (get_or ms (v / 64) 0) j && eqb j (v % 64))) where
  pub taken_inside : (j : ℕ) → has r j ≡ true → has (get_or ms (v / 64) 0) j ≡ true
  taken_inside j e = (and_parts _ _ (sym (bits j) ∙ e)).0

  pub taken_obeys : Only (family (set ms (v / 64) r)) v
  taken_obeys c e = eqb-true c (v % 64) (and_parts _ _ (sym (bits c) ∙ sym (at_same ms (v / 64) r here c) ∙ e)).1

  pub taken_within : (k : Family) → Only k v → Inside k (family ms) → Inside k (family (set ms (v / 64) r))
  taken_within k o ins x c h = go (cases_eq x (v / 64))
    where
      go : (x ≡ v / 64) ⊎ (x ≡ v / 64 → ⊥) → family (set ms (v / 64) r) x c ≡ true
      go (inr n) = at_other ms (v / 64) r here x c n ∙ ins x c h
      go (inl q) =
          let h' : k (v / 64) c ≡ true = subst (λ (y : ℕ). k y c ≡ true) q h in
          subst (λ (y : ℕ). family (set ms (v / 64) r) y c ≡ true) (sym q) (at_same ms (v / 64) r here c ∙ bits c ∙ and_from _ _ (ins (v / 64) c h') (eq-eqb c (v % 64) (o c h')))

-- the decisions of a branch by their places
pub branch_all : (P : Decision → Type 0) (ws : List ℕ) (n : ℕ) → ((i : ℕ) → i < n → P (decision (get_or ws i 0))) → AllByRecursion P (branch_of ws n)
branch_all P ws zero h = tt
branch_all P ws (suc n) h = (h n (omega arith), branch_all P ws n (λ i l. h i (omega arith)))

pub all_branch : (P : Decision → Type 0) (ws : List ℕ) (n : ℕ) → AllByRecursion P (branch_of ws n) → (i : ℕ) → i < n → P (decision (get_or ws i 0))
all_branch P ws zero a i l = absurd (omega arith)
all_branch P ws (suc n) a i l = elim (cases_eq i n) [
  | inl q ↦ subst (λ (x : ℕ). P (decision (get_or ws x 0))) (sym q) a.0
  | inr d ↦ all_branch P ws n a.1 i (omega arith)
]
