-- Channels of a set: one digit at a time. Assumes nothing.
use Rattle.std.specs.Prelude.{◌≡◌, ℕ, zero, suc, ◌+◌, ◌/◌, ◌%◌, ◌^◌, ◌<◌, ◌≤◌, refl}
use Rattle.std.proofs.Common.{sym, ap, ◌∙◌, inl, inr, pow-suc, arith}
use Rattle.std.proofs.lemmas.Nat.Bits.{bit_at_lowest, bit_at-suc, bit_at-zero, bit_at_above}
use Rattle.std.specs.Int.Count.{ones, ones_in, ones_step, count_trailing_zeros, under}
use Rattle.std.proofs.lemmas.Bool.{cases_lt, cases_order}
use Rattle.rules.specs.Channels.{Has}
use Rattle.branching.specs.Channels.{Lowest}

-- the lowest digit, and the others
pub has_zero : (m : ℕ) → m % 2 ≡ 1 → Has m 0
has_zero m h = bit_at_lowest m ∙ h

pub zero_has : (m : ℕ) → Has m 0 → m % 2 ≡ 1
zero_has m h = sym (bit_at_lowest m) ∙ h

pub has_suc : (m c : ℕ) → Has (m / 2) c → Has m (suc c)
has_suc m c h = bit_at-suc m c ∙ h

pub suc_has : (m c : ℕ) → Has m (suc c) → Has (m / 2) c
suc_has m c h = sym (bit_at-suc m c) ∙ h

-- the empty set
pub none_has : (c : ℕ) → Has 0 c → ⊥
none_has c h = let e = sym (bit_at-zero c) ∙ h in omega (arith, e)

pub ones_zero : ones 0 ≡ 0
unfolding ones
ones_zero = refl

-- a set with a member has a lowest, in any width that holds the set
pub trailing_lowest : (d m : ℕ) → 0 < m → m < 2 ^ d → Lowest m (count_trailing_zeros d m)
unfolding count_trailing_zeros
trailing_lowest zero m p q = absurd (omega arith)
trailing_lowest (suc d) m p q = go (m % 2) refl (λ e. trailing_lowest d (m / 2) (omega arith) (omega arith))
  where
    go : (r : ℕ) → m % 2 ≡ r → (m % 2 ≡ 0 → Lowest (m / 2) (count_trailing_zeros d (m / 2))) → Lowest m (under r (count_trailing_zeros d (m / 2)))
    go zero e ih = (has_suc m (count_trailing_zeros d (m / 2)) (ih e).0, below)
      where
        below : (j : ℕ) → j < suc (count_trailing_zeros d (m / 2)) → Has m j → ⊥
        below zero l h = let o = zero_has m h in omega arith
        below (suc j) l h = (ih e).1 j (omega arith) (suc_has m j h)
    go (suc r) e ih = (has_zero m (omega arith), λ j l h. omega arith)

pub lowest_unique : (m a b : ℕ) → Lowest m a → Lowest m b → a ≡ b
lowest_unique m a b p q = elim (cases_order a b) [ inl e ↦ e | inr (inl l) ↦ absurd (q.1 a l p.0) | inr (inr l) ↦ absurd (p.1 b l q.0) ]

-- a number is below its power of two
pub below_pow : (n : ℕ) → n < 2 ^ n
below_pow zero = omega arith
below_pow (suc n) = let h = below_pow n in let p = pow-suc 2 n in omega arith

-- counts
pub member_counts : (c m : ℕ) → Has m c → 1 ≤ ones m
member_counts zero m h = let o = zero_has m h in let s = ones_step m in omega arith
member_counts (suc c) m h = let o = member_counts c (m / 2) (suc_has m c h) in let s = ones_step m in omega arith

pub two_count : (a b m : ℕ) → a < b → Has m a → Has m b → 2 ≤ ones m
two_count zero zero m l p q = absurd (omega arith)
two_count zero (suc b) m l p q = let o = zero_has m p in let r = member_counts b (m / 2) (suc_has m b q) in let s = ones_step m in omega arith
two_count (suc a) zero m l p q = absurd (omega arith)
two_count (suc a) (suc b) m l p q = let r = two_count a b (m / 2) (omega arith) (suc_has m a p) (suc_has m b q) in let s = ones_step m in omega arith

pub counts_member : (d m : ℕ) → m < 2 ^ d → 1 ≤ ones m → (c : ℕ) × Has m c
counts_member d zero q h = absurd (omega (arith, ones_zero))
counts_member d (suc n) q h = (count_trailing_zeros d (suc n), (trailing_lowest d (suc n) (omega arith) q).0)

-- a set that counts two or more has two different members
pub counts_two : (d m : ℕ) → m < 2 ^ d → 2 ≤ ones m → (a : ℕ) × (b : ℕ) × (a < b) × Has m a × Has m b
counts_two zero m q h = absurd (let e : m ≡ 0 = omega arith in let o = ap ones e in omega (arith, ones_zero))
counts_two (suc d) m q h = go (m % 2) refl (λ l. counts_two d (m / 2) (omega arith) l)
  where
    go : (r : ℕ) → m % 2 ≡ r → (2 ≤ ones (m / 2) → (a : ℕ) × (b : ℕ) × (a < b) × Has (m / 2) a × Has (m / 2) b) → (a : ℕ) × (b : ℕ) × (a < b) × Has m a × Has m b
    go zero e ih =
        let s = ones_step m in
        let t = ih (omega arith) in
        (suc t.0, suc t.1, omega (arith, t.2), has_suc m t.0 t.3, has_suc m t.1 t.4)
    go (suc r) e ih =
        let s = ones_step m in
        let t = counts_member d (m / 2) (omega arith) (omega arith) in
        (0, suc t.0, omega arith, has_zero m (omega arith), has_suc m t.0 t.1)

-- a channel of a word of d bits is below d
pub has_below : (d m c : ℕ) → m < 2 ^ d → Has m c → c < d
has_below d m c q h = elim (cases_lt c d) [ inl l ↦ l | inr l ↦ absurd (let e = sym (bit_at_above m d c q l) ∙ h in omega (arith, e)) ]

-- the count over d digits, which computes at wide numerals where `ones` does not
pub ones_in_lem : (d m : ℕ) → m < 2 ^ d → ones_in d m ≡ ones m
unfolding ones_in
ones_in_lem zero m q = let e : m ≡ 0 = omega arith in sym (ap ones e ∙ ones_zero)
ones_in_lem (suc d) m q = ap (λ (x : ℕ). m % 2 + x) (ones_in_lem d (m / 2) (omega arith)) ∙ sym (ones_step m)

pub wide_count : ones 0x8000_0000_0000_0003 ≡ 3
unfolding ones_in
wide_count = sym (ones_in_lem 64 0x8000_0000_0000_0003 (omega arith))
