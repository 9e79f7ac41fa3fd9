-- What the fewest-first order answers. Assumes nothing.
use Rattle.std.specs.Prelude.{◌≡◌, ℕ, Bool, zero, suc, ◌^◌, ◌<◌, ◌≤◌, true, ◌&&◌, List, length, Some, None, Option, MatchOption, ◌≢◌, count_ones, nat_lt, slice_index, refl}
use Rattle.std.proofs.Common.{sym, ap, subst, inl, inr, arith}
use Rattle.std.proofs.lemmas.Bool.{cases_eq, cases_lt, cond_both, leb-true, leb-false, ltb-true, ltb-false, and_parts, and_cases}
use Rattle.std.specs.Int.Count.{count_trailing_zeros}
use Rattle.std.specs.Option.{option_map}
use Rattle.std.proofs.lemmas.List.{get_or_past}
use Rattle.rules.specs.Channels.{Has}
use Rattle.branching.specs.Channels.{Open, count, open?, Lowest}
use Rattle.branching.specs.Order.{Lawful, Branches}
use Rattle.branching.specs.Fewest.{FewestOf, fewest_of, fewest, after, lowest, fewest_first}
use Rattle.branching.specs.Bits.{trailing_lowest, lowest_unique, below_pow, none_has, ones_zero}

-- what the answer among the first n says
abbrev pub Answers : List ℕ → ℕ → Option ℕ → Type 0
Answers ms n a = MatchOption a ((j : ℕ) → j < n → Open ms j → ⊥) (λ g. FewestOf ms n g)

below : (P : ℕ → Type 0) (n : ℕ) → ((j : ℕ) → j < n → P j) → P n → (j : ℕ) → j < suc n → P j
below P n h p j l = elim (cases_eq j n) [ inl e ↦ subst P (sym e) p | inr ne ↦ h j (omega arith) ]

after_is : (ms : List ℕ) (n : ℕ) (a : Option ℕ) → Answers ms n a → Answers ms (suc n) (after ms n a)
after_is ms n None h =
    cond_both (open? ms n) (Some n) None (Answers ms (suc n))
    (λ e. record { within = omega arith; two = leb-true 2 (count ms n) e; least = below (λ j. Open ms j → count ms n ≤ count ms j) n (λ j l o. absurd (h j l o)) (λ o. omega arith); first = λ j l o. absurd (h j l o) })
    (λ e. below (λ j. Open ms j → ⊥) n h (λ o. omega (arith, leb-false 2 (count ms n) e)))
after_is ms n (Some b) h =
    cond_both (open? ms n && nat_lt (count ms n) (count ms b)) (Some n) (Some b) (Answers ms (suc n))
    (λ e.
    let p = and_parts (open? ms n) (nat_lt (count ms n) (count ms b)) e in
    let lt : count ms n < count ms b = ltb-true (count ms n) (count ms b) p.1 in
    record {
      within = omega arith;
      two = leb-true 2 (count ms n) p.0;
      least = below (λ j. Open ms j → count ms n ≤ count ms j) n (λ j l o. omega (arith, h.least j l o)) (λ o. omega arith);
      first = λ j l o. omega (arith, h.least j l o);
    })
    (λ e.
    let ge : Open ms n → count ms b ≤ count ms n = λ o. elim (and_cases (open? ms n) (nat_lt (count ms n) (count ms b)) e) [ inl f ↦ absurd (omega (arith, leb-false 2 (count ms n) f)) | inr f ↦ ltb-false (count ms n) (count ms b) f ] in
    record {
      within = omega (arith, h.within);
      two = h.two;
      least = below (λ j. Open ms j → count ms b ≤ count ms j) n h.least ge;
      first = h.first;
    })

pub fewest_of_is : (ms : List ℕ) (n : ℕ) → Answers ms n (fewest_of ms n)
fewest_of_is ms zero = λ j l o. absurd (omega arith)
fewest_of_is ms (suc n) = after_is ms n (fewest_of ms n) (fewest_of_is ms n)

-- no group past the end is open
pub open_within : (ms : List ℕ) (g : ℕ) → Open ms g → g < length ms
open_within ms g o = elim (cases_lt g (length ms)) [ inl l ↦ l | inr l ↦ absurd (let e = get_or_past ms g 0 l in omega (arith, ones_zero, ap count_ones e)) ]

pub branches_from : (ms : List ℕ) (a : Option ℕ) → Answers ms (length ms) a → Branches ms a
branches_from ms None h = λ g o. h g (open_within ms g o) o
branches_from ms (Some g) h = h.two

pub lowest_is : (m : ℕ) → MatchOption (lowest m) ((c : ℕ) → Has m c → ⊥) (Lowest m)
lowest_is zero = none_has
lowest_is (suc n) = trailing_lowest (suc n) (suc n) (omega arith) (below_pow (suc n))

pub remains_from : (m : ℕ) → MatchOption (lowest m) ((c : ℕ) → Has m c → ⊥) (Has m)
remains_from zero = none_has
remains_from (suc n) = (lowest_is (suc n)).0

pub fewest_lawful : Lawful fewest_first
fewest_lawful = record {
  branches = λ h ms _. branches_from ms (fewest ms) (fewest_of_is ms (length ms));
  remains = λ h ms g _. remains_from (slice_index ms g);
}

-- ---- the loop, which holds the best group so far with its count
abbrev pub counted : List ℕ → Option ℕ → Option (ℕ × ℕ)
counted ms a = option_map (λ g. (g, count ms g)) a

abbrev pub wins : ℕ → Option (ℕ × ℕ) → Bool
wins n None = true
wins n (Some p) = nat_lt n p.1

-- the lowest channel, found in 64 digits
pub lowest_by : (d m : ℕ) → (m ≢ 0) → m < 2 ^ d → Some (count_trailing_zeros d m) ≡ lowest m
lowest_by d zero p q = absurd (p refl)
lowest_by d (suc n) p q = ap Some (lowest_unique (suc n) (count_trailing_zeros d (suc n)) (count_trailing_zeros (suc n) (suc n)) (trailing_lowest d (suc n) (omega arith) q) (lowest_is (suc n)))
