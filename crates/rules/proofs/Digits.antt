-- One binary digit of a number set or cleared. Assumes nothing.
use Rattle.std.proofs.Common.{◌≡◌, ℕ, zero, suc, ◌+◌, ◌-◌, ◌*◌, ◌/◌, ◌%◌, ◌^◌, ◌<◌, ◌≤◌, Bool, true, false, not, ◌&&◌, ◌||◌, eqb, ◌≢◌, ◌⊎◌, sym, refl, ap, ◌∙◌, inl, inr, mod-eq_of_lt, one-mul, pow-suc, div-one, arith}
use native.Mathlib.Nat.{zero-div, div-div-eq-div-mul, pow-succ'}
use lib.Pow.{pow-lt}
use lib.Count.{count_trailing_zeros, under}
use Rattle.std.proofs.lemmas.Bool.{eqb-true, eq-eqb, ne_eqb, eqb-false, cases_eq, both_ways, and_parts, and_from, and_cases, not-true, not-false}
use Rattle.rules.specs.Channels.{has}
use Rattle.rules.proofs.Firsts.{seek}

abbrev pub dig : ℕ → ℕ → ℕ
dig m c = (m / 2 ^ c) % 2

pub dig_zero : (m : ℕ) → dig m 0 ≡ m % 2
dig_zero m = ap (λ (x : ℕ). x % 2) (div-one m)

pub dig_suc : (m c : ℕ) → dig m (suc c) ≡ dig (m / 2) c
dig_suc m c = ap (λ (x : ℕ). x % 2) (ap (λ (x : ℕ). m / x) (pow-succ' 2 c) ∙ sym (div-div-eq-div-mul m 2 (2 ^ c)))

pub dig_none : (c : ℕ) → dig 0 c ≡ 0
dig_none c = let e : 0 / 2 ^ c ≡ 0 = zero-div (2 ^ c) in omega (arith, e)

-- a digit that is set, and the number at least its power
pub dig_ge : (c m : ℕ) → dig m c ≡ 1 → 2 ^ c ≤ m
dig_ge zero m h = let z = dig_zero m in omega arith
dig_ge (suc c) m h = let s = dig_suc m c in let r = dig_ge c (m / 2) (omega arith) in let p = pow-suc 2 c in omega arith

pub minus_same : (c m : ℕ) → dig m c ≡ 1 → dig (m - 2 ^ c) c ≡ 0
minus_same zero m h = let z = dig_zero m in let y = dig_zero (m - 1) in omega arith
minus_same (suc c) m h =
    let s = dig_suc m c in
    let g = dig_ge c (m / 2) (omega arith) in
    let p = pow-suc 2 c in
    let r = minus_same c (m / 2) (omega arith) in
    let e : (m - 2 ^ suc c) / 2 ≡ m / 2 - 2 ^ c = omega arith in
    dig_suc (m - 2 ^ suc c) c ∙ ap (λ (x : ℕ). dig x c) e ∙ r

pub minus_other : (c j m : ℕ) → dig m c ≡ 1 → j ≢ c → dig (m - 2 ^ c) j ≡ dig m j
minus_other zero zero m h n = absurd (n refl)
minus_other zero (suc j) m h n =
    let z = dig_zero m in
    let e : (m - 2 ^ 0) / 2 ≡ m / 2 = omega arith in
    dig_suc (m - 2 ^ 0) j ∙ ap (λ (x : ℕ). dig x j) e ∙ sym (dig_suc m j)
minus_other (suc c) zero m h n =
    let p = pow-suc 2 c in
    let s = dig_suc m c in
    let g = dig_ge c (m / 2) (omega arith) in
    let e : (m - 2 ^ suc c) % 2 ≡ m % 2 = omega arith in
    dig_zero (m - 2 ^ suc c) ∙ e ∙ sym (dig_zero m)
minus_other (suc c) (suc j) m h n =
    let s = dig_suc m c in
    let g = dig_ge c (m / 2) (omega arith) in
    let p = pow-suc 2 c in
    let r = minus_other c j (m / 2) (omega arith) (λ q. n (ap suc q)) in
    let e : (m - 2 ^ suc c) / 2 ≡ m / 2 - 2 ^ c = omega arith in
    dig_suc (m - 2 ^ suc c) j ∙ ap (λ (x : ℕ). dig x j) e ∙ r ∙ sym (dig_suc m j)

pub plus_same : (c m : ℕ) → dig m c ≡ 0 → dig (m + 2 ^ c) c ≡ 1
plus_same zero m h = let z = dig_zero m in let y = dig_zero (m + 1) in omega arith
plus_same (suc c) m h =
    let s = dig_suc m c in
    let p = pow-suc 2 c in
    let r = plus_same c (m / 2) (omega arith) in
    let e : (m + 2 ^ suc c) / 2 ≡ m / 2 + 2 ^ c = omega arith in
    dig_suc (m + 2 ^ suc c) c ∙ ap (λ (x : ℕ). dig x c) e ∙ r

pub plus_other : (c j m : ℕ) → dig m c ≡ 0 → j ≢ c → dig (m + 2 ^ c) j ≡ dig m j
plus_other zero zero m h n = absurd (n refl)
plus_other zero (suc j) m h n =
    let z = dig_zero m in
    let e : (m + 2 ^ 0) / 2 ≡ m / 2 = omega arith in
    dig_suc (m + 2 ^ 0) j ∙ ap (λ (x : ℕ). dig x j) e ∙ sym (dig_suc m j)
plus_other (suc c) zero m h n =
    let p = pow-suc 2 c in
    let e : (m + 2 ^ suc c) % 2 ≡ m % 2 = omega arith in
    dig_zero (m + 2 ^ suc c) ∙ e ∙ sym (dig_zero m)
plus_other (suc c) (suc j) m h n =
    let s = dig_suc m c in
    let p = pow-suc 2 c in
    let r = plus_other c j (m / 2) (omega arith) (λ q. n (ap suc q)) in
    let e : (m + 2 ^ suc c) / 2 ≡ m / 2 + 2 ^ c = omega arith in
    dig_suc (m + 2 ^ suc c) j ∙ ap (λ (x : ℕ). dig x j) e ∙ r ∙ sym (dig_suc m j)

-- a digit set below the width leaves the number in the width
pub plus_fits : (c d m : ℕ) → dig m c ≡ 0 → m < 2 ^ d → c < d → m + 2 ^ c < 2 ^ d
plus_fits c zero m h l k = absurd (omega arith)
plus_fits zero (suc d) m h l k = let z = dig_zero m in let p = pow-suc 2 d in omega arith
plus_fits (suc c) (suc d) m h l k =
    let s = dig_suc m c in
    let p = pow-suc 2 d in
    let q = pow-suc 2 c in
    let r = plus_fits c d (m / 2) (omega arith) (omega arith) (omega arith) in
    omega arith

-- a digit that is set lies below the width
pub dig_below : (d m c : ℕ) → m < 2 ^ d → dig m c ≡ 1 → c < d
dig_below zero m c q h = absurd (let e : m ≡ 0 = omega arith in let z = ap (λ (x : ℕ). dig x c) e in let y = dig_none c in omega arith)
dig_below (suc d) m zero q h = omega arith
dig_below (suc d) m (suc c) q h = let s = dig_suc m c in let p = pow-suc 2 d in let r = dig_below d (m / 2) c (omega arith) (omega arith) in omega arith

-- a number that is not 0 has a digit set
pub dig_some : (d m : ℕ) → m < 2 ^ d → (m ≡ 0 → ⊥) → (c : ℕ) × (dig m c ≡ 1)
dig_some zero m q n = absurd (n (omega arith))
dig_some (suc d) m q n = go (cases_eq (m % 2) 1) (λ h. dig_some d (m / 2) (let p = pow-suc 2 d in omega arith) (λ z. n (omega arith)))
  where
    go : (m % 2 ≡ 1) ⊎ (m % 2 ≡ 1 → ⊥) → ((m % 2 ≡ 1 → ⊥) → (c : ℕ) × (dig (m / 2) c ≡ 1)) → (c : ℕ) × (dig m c ≡ 1)
    go (inl e) f = (0, dig_zero m ∙ e)
    go (inr e) f = let t = f e in (suc t.0, dig_suc m t.0 ∙ t.1)

-- the same of the tests
pub has_dig : (m c : ℕ) → has m c ≡ true → dig m c ≡ 1
has_dig m c h = eqb-true (dig m c) 1 h

pub lacks_dig : (m c : ℕ) → has m c ≡ false → dig m c ≡ 0
lacks_dig m c h = let n = eqb-false (dig m c) 1 h in omega arith

pub has_below : (m c : ℕ) → m < 2 ^ 64 → has m c ≡ true → c < 64
has_below m c q h = dig_below 64 m c q (has_dig m c h)

pub has_none : (c : ℕ) → has 0 c ≡ false
has_none c = ap (λ (x : ℕ). eqb x 1) (dig_none c)

pub has_some : (m : ℕ) → m < 2 ^ 64 → (m ≡ 0 → ⊥) → (c : ℕ) × (has m c ≡ true)
has_some m q n = let t = dig_some 64 m q n in (t.0, eq-eqb _ _ t.1)

and_true : (x : Bool) → x ≡ (x && true)
and_true true = refl
and_true false = refl

and_false : (x : Bool) → false ≡ (x && false)
and_false true = refl
and_false false = refl

pub minus_has : (m c : ℕ) → has m c ≡ true → (j : ℕ) → has (m - 2 ^ c) j ≡ (has m j && not (eqb j c))
minus_has m c h j = go (cases_eq j c)
  where
    go : (j ≡ c) ⊎ (j ≡ c → ⊥) → has (m - 2 ^ c) j ≡ (has m j && not (eqb j c))
    go (inl e) =
        let z : has (m - 2 ^ c) j ≡ false = rw e (ap (λ (x : ℕ). eqb x 1) (minus_same c m (has_dig m c h))) in
        z ∙ and_false (has m j) ∙ ap (λ (x : Bool). has m j && not x) (sym (eq-eqb j c e))
    go (inr n) =
        ap (λ (x : ℕ). eqb x 1) (minus_other c j m (has_dig m c h) n) ∙ and_true (has m j) ∙ ap (λ (x : Bool). has m j && not x) (sym (ne_eqb j c n))

pub same_has : (m c : ℕ) → has m c ≡ false → (j : ℕ) → has m j ≡ (has m j && not (eqb j c))
same_has m c h j = go (cases_eq j c)
  where
    go : (j ≡ c) ⊎ (j ≡ c → ⊥) → has m j ≡ (has m j && not (eqb j c))
    go (inl e) = let z : has m j ≡ false = rw e h in z ∙ and_false (has m j) ∙ ap (λ (x : Bool). has m j && not x) (sym (eq-eqb j c e))
    go (inr n) = and_true (has m j) ∙ ap (λ (x : Bool). has m j && not x) (sym (ne_eqb j c n))

or_true : (x : Bool) → true ≡ (x || true)
or_true true = refl
or_true false = refl

or_false : (x : Bool) → x ≡ (x || false)
or_false true = refl
or_false false = refl

pub plus_has : (m c : ℕ) → has m c ≡ false → (j : ℕ) → has (m + 2 ^ c) j ≡ (has m j || eqb j c)
plus_has m c h j = go (cases_eq j c)
  where
    go : (j ≡ c) ⊎ (j ≡ c → ⊥) → has (m + 2 ^ c) j ≡ (has m j || eqb j c)
    go (inl e) =
        let z : has (m + 2 ^ c) j ≡ true = rw e (ap (λ (x : ℕ). eqb x 1) (plus_same c m (lacks_dig m c h))) in
        z ∙ or_true (has m j) ∙ ap (λ (x : Bool). has m j || x) (sym (eq-eqb j c e))
    go (inr n) =
        ap (λ (x : ℕ). eqb x 1) (plus_other c j m (lacks_dig m c h) n) ∙ or_false (has m j) ∙ ap (λ (x : Bool). has m j || x) (sym (ne_eqb j c n))

-- one shifted to the left, in a width
pub shifted : (d c : ℕ) → c < d → (1 * 2 ^ c) % 2 ^ d ≡ 2 ^ c
shifted d c h = let p : 2 ^ c < 2 ^ d = pow-lt h in ap (λ (x : ℕ). x % 2 ^ d) (one-mul (2 ^ c)) ∙ mod-eq_of_lt p

-- what a set without c has
abbrev pub Cut : ℕ → ℕ → ℕ → Type 0
Cut m c r = (j : ℕ) → has r j ≡ (has m j && not (eqb j c))

pub cut_inside : (m c r : ℕ) → Cut m c r → (j : ℕ) → has r j ≡ true → has m j ≡ true
cut_inside m c r h j e = (and_parts (has m j) (not (eqb j c)) (sym (h j) ∙ e)).0

pub cut_other : (m c r : ℕ) → Cut m c r → (j : ℕ) → has r j ≡ true → j ≡ c → ⊥
cut_other m c r h j e q = both_ways (not (eqb j c)) (ap not (eq-eqb j c q)) (and_parts (has m j) (not (eqb j c)) (sym (h j) ∙ e)).1

pub cut_stays : (m c r : ℕ) → Cut m c r → (j : ℕ) → has m j ≡ true → (j ≡ c → ⊥) → has r j ≡ true
cut_stays m c r h j e n = h j ∙ and_from (has m j) (not (eqb j c)) e (ap not (ne_eqb j c n))

-- the lowest digit set
pub trailing_dig : (d m : ℕ) → (m ≡ 0 → ⊥) → m < 2 ^ d → dig m (count_trailing_zeros d m) ≡ 1
unfolding count_trailing_zeros
trailing_dig zero m p q = absurd (p (omega arith))
trailing_dig (suc d) m p q = go (m % 2) refl (λ e. trailing_dig d (m / 2) (λ z. p (omega arith)) (let w = pow-suc 2 d in omega arith))
  where
    go : (r : ℕ) → m % 2 ≡ r → (m % 2 ≡ 0 → dig (m / 2) (count_trailing_zeros d (m / 2)) ≡ 1) → dig m (under r (count_trailing_zeros d (m / 2))) ≡ 1
    go zero e ih = dig_suc m (count_trailing_zeros d (m / 2)) ∙ ih e
    go (suc r) e ih = dig_zero m ∙ (let l : suc r < 2 = omega arith in omega arith)

pub trailing_has : (m : ℕ) → (m ≡ 0 → ⊥) → m < 2 ^ 64 → has m (count_trailing_zeros 64 m) ≡ true
trailing_has m p q = eq-eqb _ _ (trailing_dig 64 m p q)

-- a set within another is no larger as a number
dig_two : (m c : ℕ) → dig m c ≤ 1
dig_two m c = omega arith

pub digs_le : (d a b : ℕ) → a < 2 ^ d → ((j : ℕ) → dig a j ≡ 1 → dig b j ≡ 1) → a ≤ b
digs_le zero a b q h = omega arith
digs_le (suc d) a b q h =
    let w = pow-suc 2 d in
    let r = digs_le d (a / 2) (b / 2) (omega arith) (λ j e. sym (dig_suc b j) ∙ h (suc j) (dig_suc a j ∙ e)) in
    let z : a % 2 ≤ b % 2 = elim (cases_eq (a % 2) 1) [ inl e ↦ (let f = h 0 (dig_zero a ∙ e) in let y = dig_zero b in omega arith) | inr n ↦ omega arith ] in
    omega arith

-- of two sets, the one smaller as a number, the larger has a channel that the smaller lacks
pub has_more : (k m : ℕ) → m < 2 ^ 64 → k < m → (b : ℕ) × (has m b ≡ true) × (has k b ≡ false)
has_more k m q l = go (seek (λ j. has m j && not (has k j)) 64)
  where
    go : ((i : ℕ) × (i < 64) × ((has m i && not (has k i)) ≡ true)) ⊎ ((i : ℕ) → i < 64 → (has m i && not (has k i)) ≡ false) → (b : ℕ) × (has m b ≡ true) × (has k b ≡ false)
    go (inl t) = let p = and_parts _ _ t.2 in (t.0, p.0, not-true _ p.1)
    go (inr f) = absurd (let r = digs_le 64 m k q inner in omega arith)
      where
        inner : (j : ℕ) → dig m j ≡ 1 → dig k j ≡ 1
        inner j e =
            let b = dig_below 64 m j q e in
            elim (and_cases (has m j) (not (has k j)) (f j b)) [
              | inl x ↦ absurd (both_ways (has m j) x (eq-eqb _ _ e))
              | inr x ↦ has_dig k j (not-false (has k j) x)
            ]
