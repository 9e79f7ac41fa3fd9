-- Two lists of masks that remain are one; and they are domains that an order may be asked about.
use Rattle.std.proofs.Common.{◌≡◌, ℕ, ◌+◌, ◌-◌, ◌*◌, ◌/◌, ◌%◌, ◌^◌, ◌<◌, ◌≤◌, true, eqb, List, length, get_or, sym, ◌∙◌, inl, inr, arith, ext_get_or}
use Rattle.std.proofs.Math.Nat.{lt-div-mul-add}
use Rattle.std.proofs.lemmas.Nat.{pow_pos, mod_below, div-add-mod'}
use Rattle.std.proofs.lemmas.Nat.Bits.{bit_at-zero, bit_at_cat_high, same_from_bits}
use Rattle.std.proofs.lemmas.Bool.{eqb-true, eq-eqb, cases_eq}
use Rattle.rules.specs.Channels.{has, Has}
use Rattle.rules.specs.Meanings.{Meaning}
use Rattle.branching.specs.Order.{Domains}
use Rattle.model.specs.Remains.{family}
use Rattle.model.specs.Moves.{State}
use Rattle.model.proofs.Remains.{remains_one}
use Rattle.laws.specs.Sittings.{Leaves}

pub has-Has : (m c : ℕ) → has m c ≡ true → Has m c
has-Has m c h = eqb-true (m / 2 ^ c % 2) 1 h

pub Has-has : (m c : ℕ) → Has m c → has m c ≡ true
Has-has m c h = eq-eqb (m / 2 ^ c % 2) 1 h

-- Two digits that are 1 together are one.
same_digit : (x y : ℕ) → x < 2 → y < 2 → eqb x 1 ≡ eqb y 1 → x ≡ y
same_digit x y p q e =
    elim (cases_eq x 1) [
      | inl a ↦ a ∙ sym (eqb-true y 1 (sym e ∙ eq-eqb x 1 a))
      | inr a ↦ elim (cases_eq y 1) [ inl b ↦ absurd (a (eqb-true x 1 (e ∙ eq-eqb y 1 b))) | inr b ↦ omega arith ]
    ]

-- Two sets with the same channels are one number.
pub leaves_one : (lists : List ℕ) (book : Meaning) (s : State) (ms ns : List ℕ) → Leaves lists book s ms → Leaves lists book s ns → ms ≡ ns
leaves_one lists book s ms ns l r =
    ext_get_or 0 ms ns (l.size ∙ sym r.size)
    (λ i h. same_from_bits (get_or ms i 0) (get_or ns i 0)
    (λ c. same_digit (get_or ms i 0 / 2 ^ c % 2) (get_or ns i 0 / 2 ^ c % 2) (omega arith) (omega arith) (remains_one lists book s (family ms) (family ns) l.remain r.remain i c)))

-- A set whose channels are all below k is a word of k bits: above them it has no bit.
low_word : (k m : ℕ) → ((c : ℕ) → has m c ≡ true → c < k) → m < 2 ^ k
low_word k m low =
    let none_above : m / 2 ^ k ≡ 0 = same_from_bits (m / 2 ^ k) 0 (λ i. above i ∙ sym (bit_at-zero i)) in
    let close : m < m / 2 ^ k * 2 ^ k + 2 ^ k = lt-div-mul-add (pow_pos k) in
    let h : m < 0 * 2 ^ k + 2 ^ k = rw none_above at close in
    omega arith
  where
    no_bit : (i : ℕ) → m / 2 ^ (i + k) % 2 ≡ 0
    no_bit i = elim (cases_eq (m / 2 ^ (i + k) % 2) 1) [
      | inl e ↦ absurd (let l = low (i + k) (Has-has m (i + k) e) in omega arith)
      | inr e ↦ omega arith
    ]

    above : (i : ℕ) → m / 2 ^ k / 2 ^ i % 2 ≡ 0
    above i =
        let parts : m / 2 ^ k * 2 ^ k + m % 2 ^ k ≡ m = div-add-mod' m (2 ^ k) in
        let high : (m / 2 ^ k * 2 ^ k + m % 2 ^ k) / 2 ^ (i + k) % 2 ≡ m / 2 ^ k / 2 ^ (i + k - k) % 2 = bit_at_cat_high (m / 2 ^ k) k (m % 2 ^ k) (i + k) (mod_below m (2 ^ k) (pow_pos k)) (omega arith) in
        let e : i + k - k ≡ i = omega arith in
        sym (rw (parts, e) at high) ∙ no_bit i

-- What remains is a word for each group.
pub leaves_words : (lists : List ℕ) (book : Meaning) (s : State) (ms : List ℕ) → Leaves lists book s ms → (g : ℕ) → get_or ms g 0 < 2 ^ 64
leaves_words lists book s ms l g = low_word 64 (get_or ms g 0) (λ c h. (l.remain.meets.within g c h).channel)

-- What remains of at most 200 groups may be asked about.
pub leaves_domains : (lists : List ℕ) (book : Meaning) (s : State) (ms : List ℕ) → length lists ≤ 200 → Leaves lists book s ms → Domains ms
leaves_domains lists book s ms few l = record { few = omega (arith, l.size); words = leaves_words lists book s ms l }
