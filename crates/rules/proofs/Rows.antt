-- Channels in a row, and two sets joined or cut. Assumes nothing.
use Rattle.std.proofs.Common.{◌≡◌, ℕ, zero, suc, ◌-◌, ◌/◌, ◌%◌, ◌^◌, ◌<◌, ◌≤◌, true, not, ◌&&◌, ◌||◌, eqb, leb, ltb, min, max, bit_and, bit_or, sym, refl, ap, ◌∙◌, inl, inr, w64, arith}
use Rattle.std.proofs.lemmas.Bool.{cases_lt, cases_eq, eq-eqb, and_left, and_right, and_from, le-leb, lt-leb, lt-ltb, le-ltb}
use Rattle.std.proofs.lemmas.Nat.Bits.{bit_at_not, bit_at_ones, bit_at-pow_same, bit_at-pow_other, bit_at_mask_inside, bit_at_mask_below, bit_at_mask_above, bit_at_and, bit_at_or, bit_at-lt}
use Rattle.rules.specs.Channels.{has}
use Rattle.rules.proofs.Digits.{dig, dig_zero, dig_suc, dig_below, has_dig}
use lib.Count.{count_trailing_zeros, under}

-- the channels from lo on below hi
pub row_has : (lo hi j : ℕ) → has (2 ^ hi - 2 ^ lo) j ≡ (leb lo j && ltb j hi)
row_has lo hi j = elim (cases_lt j lo) [
  | inl l ↦ ap (λ (x : ℕ). eqb x 1) (bit_at_mask_below lo hi j l) ∙ sym (and_left _ _ (lt-leb lo j l))
  | inr a ↦ elim (cases_lt j hi) [
    | inl b ↦ ap (λ (x : ℕ). eqb x 1) (bit_at_mask_inside lo hi j a b) ∙ sym (and_from _ _ (le-leb lo j a) (lt-ltb j hi b))
    | inr b ↦ ap (λ (x : ℕ). eqb x 1) (bit_at_mask_above lo hi j b) ∙ sym (and_right _ _ (le-ltb j hi b))
  ]
]

-- digits of two sets
both_digits : (p q : ℕ) → p < 2 → q < 2 → eqb (min p q) 1 ≡ (eqb p 1 && eqb q 1)
both_digits zero zero l m = refl
both_digits zero (suc zero) l m = refl
both_digits (suc zero) zero l m = refl
both_digits (suc zero) (suc zero) l m = refl
both_digits (suc (suc p)) q l m = absurd (omega arith)
both_digits p (suc (suc q)) l m = absurd (omega arith)

some_digit : (p q : ℕ) → p < 2 → q < 2 → eqb (max p q) 1 ≡ (eqb p 1 || eqb q 1)
some_digit zero zero l m = refl
some_digit zero (suc zero) l m = refl
some_digit (suc zero) zero l m = refl
some_digit (suc zero) (suc zero) l m = refl
some_digit (suc (suc p)) q l m = absurd (omega arith)
some_digit p (suc (suc q)) l m = absurd (omega arith)

pub and_has : (a b j : ℕ) → has (bit_and a b) j ≡ (has a j && has b j)
and_has a b j = ap (λ (x : ℕ). eqb x 1) (bit_at_and a b j) ∙ both_digits _ _ (bit_at-lt a j) (bit_at-lt b j)

pub or_has : (a b j : ℕ) → has (bit_or a b) j ≡ (has a j || has b j)
or_has a b j = ap (λ (x : ℕ). eqb x 1) (bit_at_or a b j) ∙ some_digit _ _ (bit_at-lt a j) (bit_at-lt b j)

-- the channels that a set lacks
not_digit : (p : ℕ) → p < 2 → eqb (1 - p) 1 ≡ not (eqb p 1)
not_digit zero l = refl
not_digit (suc zero) l = refl
not_digit (suc (suc p)) l = absurd (omega arith)

pub not_has : (m j : ℕ) → m < 2 ^ 64 → j < 64 → has (2 ^ 64 - 1 - m) j ≡ not (has m j)
not_has m j q l = ap (λ (x : ℕ). eqb x 1) (bit_at_not w64 m j q l) ∙ not_digit _ (bit_at-lt m j)

-- every channel, and one alone
pub all_has : (j : ℕ) → j < 64 → has (2 ^ 64 - 1) j ≡ true
all_has j l = eq-eqb _ _ (bit_at_ones 64 j l)

pub one_has : (c : ℕ) → has (2 ^ c) c ≡ true
one_has c = eq-eqb _ _ (bit_at-pow_same c)

pub one_has_only : (c j : ℕ) → has (2 ^ c) j ≡ true → j ≡ c
one_has_only c j h = elim (cases_eq j c) [ inl e ↦ e | inr d ↦ absurd (let z = bit_at-pow_other c j d in let y = has_dig (2 ^ c) j h in omega arith) ]

-- no channel is below the lowest, and none above the highest
pub trailing_least : (d m j : ℕ) → dig m j ≡ 1 → count_trailing_zeros d m ≤ j
unfolding count_trailing_zeros
trailing_least zero m j h = omega arith
trailing_least (suc d) m j h = go (m % 2) j refl h (trailing_least d (m / 2))
  where
    go : (r j : ℕ) → m % 2 ≡ r → dig m j ≡ 1 → ((i : ℕ) → dig (m / 2) i ≡ 1 → count_trailing_zeros d (m / 2) ≤ i) → under r (count_trailing_zeros d (m / 2)) ≤ j
    go zero zero e h ih = absurd (let z = dig_zero m in omega arith)
    go zero (suc j) e h ih = let l = ih j (sym (dig_suc m j) ∙ h) in omega arith
    go (suc r) j e h ih = omega arith

pub highest_has : (m r j : ℕ) → m < 2 ^ r → has m j ≡ true → j < r
highest_has m r j q h = dig_below r m j q (has_dig m j h)
