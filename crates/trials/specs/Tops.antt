-- What the highest-first order answers.
use Rattle.std.specs.Prelude.{◌≡◌, ℕ, true, false, cond, zero, suc, ◌-◌, ◌*◌, ◌/◌, ◌%◌, ◌^◌, ◌<◌, ◌≤◌, List, length, Some, None, Option, MatchOption, slice_index, refl}
use Rattle.std.proofs.Common.{ap, subst, ◌∙◌, inl, inr, arith, pow_mono}
use Rattle.std.proofs.Math.Nat.{div-eq_of_lt-le}
use Rattle.std.specs.Int.Count.{count_leading_zeros}
use Rattle.std.proofs.lemmas.Nat.{leading_top, pow_pos}
use Rattle.std.proofs.lemmas.Bool.{cases_eq, cases_lt, cond_both, cond-true, cond-false, leb-true, leb-false}
use Rattle.rules.specs.Channels.{Has}
use Rattle.branching.specs.Channels.{Open, count, open?}
use Rattle.branching.specs.Order.{Lawful, Branches}
use Rattle.branching.specs.Bits.{below_pow, none_has}
use Rattle.branching.specs.FewestLemmas.{open_within}
use Rattle.trials.specs.Highest.{highest_of, top, highest_first}

-- ---- the group
abbrev pub Among : List ℕ → ℕ → Option ℕ → Type 0
Among ms n a = MatchOption a ((j : ℕ) → j < n → Open ms j → ⊥) (λ g. Open ms g)

pub past : (ms : List ℕ) (n : ℕ) (a : Option ℕ) → (Open ms n → ⊥) → Among ms n a → Among ms (suc n) a
past ms n None shut h = λ j l o. elim (cases_eq j n) [ inl e ↦ shut (subst (Open ms) e o) | inr ne ↦ h j (omega arith) o ]
past ms n (Some g) shut h = h

highest_among : (ms : List ℕ) (n : ℕ) → Among ms n (highest_of ms n)
highest_among ms zero = λ j l o. absurd (omega arith)
highest_among ms (suc n) =
    cond_both (open? ms n) (Some n) (highest_of ms n) (Among ms (suc n))
    (λ e. leb-true 2 (count ms n) e)
    (λ e. past ms n (highest_of ms n) (λ o. omega (arith, leb-false 2 (count ms n) e)) (highest_among ms n))

pub branches_from : (ms : List ℕ) (a : Option ℕ) → Among ms (length ms) a → Branches ms a
branches_from ms None h = λ g o. h g (open_within ms g o) o
branches_from ms (Some g) h = h

-- ---- the channel
-- j is the place of the highest digit of m
Top : ℕ → ℕ → Type 0
Top m j = (2 ^ j ≤ m) × (m < 2 ^ suc j)

top_at : (d m : ℕ) → 0 < m → m < 2 ^ d → Top m (d - 1 - count_leading_zeros d m)
unfolding Top
top_at d m p q =
    let t = leading_top d m p q in
    let e : t.0 ≡ d - 1 - count_leading_zeros d m = omega (arith, t.1) in
    subst (λ j. (2 ^ j ≤ m) × (m < 2 ^ suc j)) e (t.2, t.3)

top_unique : (m a b : ℕ) → Top m a → Top m b → a ≡ b
unfolding Top
top_unique m a b s t =
    elim (cases_lt a b) [
      | inl l ↦ let w : 2 ^ suc a ≤ 2 ^ b = pow_mono l in absurd (omega (arith, w, s.1, t.0))
      | inr l ↦ elim (cases_lt b a) [
        | inl k ↦ let w : 2 ^ suc b ≤ 2 ^ a = pow_mono k in absurd (omega (arith, w, t.1, s.0))
        | inr k ↦ omega arith
      ]
    ]

top_has : (m j : ℕ) → Top m j → Has m j
unfolding Top
top_has m j t =
    let one : m / 2 ^ j ≡ 1 = div-eq_of_lt-le (2 ^ j) (omega (arith, t.0)) (omega (arith, t.1)) in
    ap (λ x. x % 2) one

remains_from : (m : ℕ) → MatchOption (top m) ((c : ℕ) → Has m c → ⊥) (Has m)
remains_from zero = none_has
remains_from (suc n) = top_has (suc n) (n - count_leading_zeros (suc n) (suc n)) (subst (λ x. Top (suc n) (x - count_leading_zeros (suc n) (suc n))) (omega arith) (top_at (suc n) (suc n) (omega arith) (below_pow (suc n))))

pub highest_lawful : Lawful highest_first
highest_lawful = record {
  branches = λ h ms _. branches_from ms (highest_of ms (length ms)) (highest_among ms (length ms));
  remains = λ h ms g _. remains_from (slice_index ms g);
}

-- ---- what the code answers
pub none_highest : (ms : List ℕ) (n : ℕ) → ((j : ℕ) → j < n → open? ms j ≡ false) → highest_of ms n ≡ None
none_highest ms zero shut = refl
none_highest ms (suc n) shut = cond-false (open? ms n) (Some n) (highest_of ms n) (shut n (omega arith)) ∙ none_highest ms n (λ j l. shut j (omega arith))

pub highest_at : (ms : List ℕ) (n g : ℕ) → g < n → open? ms g ≡ true → ((j : ℕ) → g < j → j < n → open? ms j ≡ false) → highest_of ms n ≡ Some g
highest_at ms zero g l two above = absurd (omega arith)
highest_at ms (suc n) g l two above =
    elim (cases_eq n g) [
      | inl e ↦ ap (λ x. cond (open? ms x) (Some x) (highest_of ms x)) e ∙ cond-true (open? ms g) (Some g) (highest_of ms g) two
      | inr ne ↦ cond-false (open? ms n) (Some n) (highest_of ms n) (above n (omega arith) (omega arith)) ∙ highest_at ms n g (omega arith) two (λ j k m. above j k (omega arith))
    ]

pub top_between : (m k : ℕ) → 2 ^ k ≤ m → m < 2 * 2 ^ k → Some k ≡ top m
unfolding Top
top_between zero k p q = absurd (omega (arith, p, pow_pos k))
top_between (suc n) k p q =
    ap Some (top_unique (suc n) k (n - count_leading_zeros (suc n) (suc n)) (p, omega (arith, q))
    (subst (λ x. Top (suc n) (x - count_leading_zeros (suc n) (suc n))) (omega arith) (top_at (suc n) (suc n) (omega arith) (below_pow (suc n)))))
