-- What remains, as masks.
use Rattle.std.proofs.Common.{◌≡◌, ℕ, zero, suc, ◌+◌, ◌*◌, ◌/◌, ◌<◌, ◌≤◌, Bool, true, false, cond, eqb, List, [], ◌∷◌, length, get_or, sym, refl, ap, ◌∙◌, subst, inl, inr, not-suc-le-zero, arith}
use mathlib.Core.Path.{fun_ext}
use Rattle.std.proofs.lemmas.Bool.{cases_lt}
use Rattle.std.proofs.lemmas.Nat.Bits.{bit_at-suc}
use Rattle.branching.specs.Bits.{has_zero, zero_has, none_has}
use Rattle.rules.specs.Channels.{has}
use Rattle.rules.specs.Plans.{Listed}
use Rattle.rules.specs.Meanings.{Meaning, Lawful}
use Rattle.model.specs.Remains.{Family, family}
use Rattle.model.specs.Moves.{State, Left}
use Rattle.model.proofs.Tests.{refuted}
use Rattle.laws.specs.Sittings.{Leaves}
use Rattle.laws.proofs.Masks.{has-Has, Has-has}
use Rattle.model.proofs.Largest.{filtered, filtered_remains}

-- The number with the bits that pass.
abbrev bits : (ℕ → Bool) → ℕ → ℕ
bits p zero = 0
bits p (suc d) = cond (p 0) 1 0 + 2 * bits (λ c. p (suc c)) d

has_half : (m c : ℕ) → has m (suc c) ≡ has (m / 2) c
has_half m c = ap (λ (x : ℕ). eqb x 1) (bit_at-suc m c)

low_half : (b : Bool) (r : ℕ) → (cond b 1 0 + 2 * r) / 2 ≡ r
low_half true r = omega arith
low_half false r = omega arith

low_bit : (b : Bool) (r : ℕ) → has (cond b 1 0 + 2 * r) 0 ≡ b
low_bit true r = Has-has (1 + 2 * r) 0 (has_zero (1 + 2 * r) (omega arith))
low_bit false r = refuted _ (λ t. let h = zero_has (0 + 2 * r) (has-Has (0 + 2 * r) 0 t) in omega arith)

bits_below : (d : ℕ) (p : ℕ → Bool) (c : ℕ) → c < d → has (bits p d) c ≡ p c
bits_below zero p c l = absurd (not-suc-le-zero l)
bits_below (suc d) p zero l = low_bit (p 0) (bits (λ c. p (suc c)) d)
bits_below (suc d) p (suc c) l = has_half (bits p (suc d)) c ∙ ap (λ (x : ℕ). has x c) (low_half (p 0) (bits (λ c. p (suc c)) d)) ∙ bits_below d (λ c. p (suc c)) c (omega arith)

pub has_none : (c : ℕ) → has 0 c ≡ false
has_none c = refuted (has 0 c) (λ t. none_has c (has-Has 0 c t))

bits_past : (d : ℕ) (p : ℕ → Bool) (c : ℕ) → d ≤ c → has (bits p d) c ≡ false
bits_past zero p c l = has_none c
bits_past (suc d) p zero l = absurd (omega arith)
bits_past (suc d) p (suc c) l = has_half (bits p (suc d)) c ∙ ap (λ (x : ℕ). has x c) (low_half (p 0) (bits (λ c. p (suc c)) d)) ∙ bits_past d (λ c. p (suc c)) c (omega arith)

-- The masks of a family, for as many groups as there are lists.
abbrev masks_from : Family → ℕ → List ℕ → List ℕ
masks_from k g [] = []
masks_from k g (m ∷ ms) = bits (k g) 64 ∷ masks_from k (suc g) ms

masks_length : (k : Family) (g : ℕ) (ms : List ℕ) → length (masks_from k g ms) ≡ length ms
masks_length k g [] = refl
masks_length k g (m ∷ ms) = ap suc (masks_length k (suc g) ms)

masks_at : (k : Family) (g : ℕ) (ms : List ℕ) (i : ℕ) → i < length ms → get_or (masks_from k g ms) i 0 ≡ bits (k (g + i)) 64
masks_at k g [] i l = absurd (not-suc-le-zero l)
masks_at k g (m ∷ ms) zero l = let e : g + 0 ≡ g = omega arith in rw e refl
masks_at k g (m ∷ ms) (suc i) l = let e : g + suc i ≡ suc g + i = omega arith in rw e (masks_at k (suc g) ms i (omega arith))

masks_past : (k : Family) (g : ℕ) (ms : List ℕ) (i : ℕ) → length ms ≤ i → get_or (masks_from k g ms) i 0 ≡ 0
masks_past k g [] i l = refl
masks_past k g (m ∷ ms) zero l = absurd (omega arith)
masks_past k g (m ∷ ms) (suc i) l = masks_past k (suc g) ms i (omega arith)

masks_family : (lists : List ℕ) (k : Family) → ((g c : ℕ) → k g c ≡ true → Listed lists g c) → (g c : ℕ) → family (masks_from k 0 lists) g c ≡ k g c
masks_family lists k within g c = elim (cases_lt g (length lists)) [
  | inl l ↦ elim (cases_lt c 64) [
    | inl m ↦ ap (λ (x : ℕ). has x c) (here l) ∙ bits_below 64 (k g) c m
    | inr m ↦ ap (λ (x : ℕ). has x c) (here l) ∙ bits_past 64 (k g) c m ∙ sym (refuted (k g c) (λ h. let s = (within g c h).channel in omega arith))
  ]
  | inr l ↦ ap (λ (x : ℕ). has x c) (masks_past k 0 lists g l) ∙ has_none c ∙ sym (refuted (k g c) (λ h. let s = (within g c h).group in omega arith))
]
  where
    here : g < length lists → get_or (masks_from k 0 lists) g 0 ≡ bits (k g) 64
    here l = let e : 0 + g ≡ g = omega arith in rw e at (masks_at k 0 lists g l)

-- What remains, as masks.
abbrev pub remaining : List ℕ → Meaning → State → List ℕ
remaining lists book s = masks_from (filtered lists book s.base s.branch) 0 lists

pub remaining_leaves : (lists : List ℕ) (book : Meaning) → Lawful book → (s : State) → Leaves lists book s (remaining lists book s)
remaining_leaves lists book lawful s =
    let k = filtered lists book s.base s.branch in
    let r = filtered_remains lists book s.base s.branch lawful in
    let e : family (remaining lists book s) ≡ filtered lists book s.base s.branch = fun_ext (λ g. fun_ext (λ c. masks_family lists k r.meets.within g c)) in
    record {
      size = masks_length k 0 lists;
      remain = subst (λ (j : Family). Left lists book s j) (sym e) r;
    }
