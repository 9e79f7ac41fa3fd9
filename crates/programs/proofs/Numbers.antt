-- What `parse` reads of a word, as the number that the word says.
use Rattle.std.proofs.Common.{◌≡◌, ℕ, ◌<◌, ◌≤◌, ◌^◌, Bool, true, false, List, length, Some, None, arith, refl, if◌then◌else◌}
use Rattle.std.proofs.lemmas.Bool.Decides.{nat_tests}
use Rattle.std.proofs.lemmas.Str.Parse.{IsNumeralModel, numerals_by_value, tells_all_ascii_digits}
use Rattle.std.specs.Str.{all_ascii_digits}
use Rattle.std.specs.Str.Parse.{digits_value, without_leading_plus, IsNumeral}
use Rattle.programs.specs.Words.{is_number, number_in}

own : IsNumeralModel (λ ds. all_ascii_digits ds ≡ true) (digits_value 10)
own = numerals_by_value _ tells_all_ascii_digits

is_numeral : (ds : List ℕ) → is_number ds ≡ true → IsNumeral 10 ds
is_numeral ds h =
    let some : 0 < length ds = grind (arith, nat_tests) in
    let all : all_ascii_digits ds ≡ true = grind (arith, nat_tests) in
    (some, own.to ds all)

-- a number that is read is said, where it is in the range
pub number_read : (least most n : ℕ) (word : List ℕ) → IsNumeral 10 (without_leading_plus word) → n ≡ digits_value 10 (without_leading_plus word) → least ≤ n → n ≤ most → Some n ≡ number_in least most word
number_read least most n word h v l m =
    let all : all_ascii_digits (without_leading_plus word) ≡ true = own.from _ h.1 in
    let some = h.0 in
    grind (arith, nat_tests)

by_test : (most : ℕ) (ds : List ℕ) (t : Bool) → most < 2 ^ 32 → ¬ (IsNumeral 10 ds × (digits_value 10 ds < 2 ^ 32)) → (t ≡ true → (is_number ds ≡ true) × (digits_value 10 ds ≤ most)) → None ≡ (if t then Some (digits_value 10 ds) else None)
by_test most ds true b f h =
    let k = h refl in
    absurd (f (is_numeral ds k.0, omega (arith, k.1, b)))
by_test most ds false b f h = refl

-- and none is where none is read
pub none_read : (least most : ℕ) (word : List ℕ) → most < 2 ^ 32 → ¬ (IsNumeral 10 (without_leading_plus word) × (digits_value 10 (without_leading_plus word) < 2 ^ 32)) → None ≡ number_in least most word
none_read least most word b f = by_test most (without_leading_plus word) _ b f (λ e. (grind (arith, nat_tests), grind (arith, nat_tests)))
