-- What `parse` reads, as the number that a word says.
use Rattle.std.proofs.Common.{◌≡◌, ℕ, ◌<◌, Bool, true, false, List, length, Some, None, Result, Ok, Err, MatchOption, arith, sym, ◌∙◌}
use Rattle.std.proofs.lemmas.Bool.{false≢true}
use Rattle.std.proofs.lemmas.Bool.Decides.{nat_tests}
use Rattle.std.proofs.lemmas.Str.Parse.{IsNumeralModel, numerals_by_value, tells_all_ascii_digits}
use Rattle.std.specs.Bool.{Decides}
use Rattle.std.specs.Result.{OkIff, result_ok}
use Rattle.std.specs.Str.{all_ascii_digits}
use Rattle.std.specs.Str.Parse.{digits_value}
use Rattle.text.specs.Words.{number_said}

pub own : IsNumeralModel (λ ds. all_ascii_digits ds ≡ true) (digits_value 10)
own = numerals_by_value _ tells_all_ascii_digits

-- where a word has no plus in front, `parse` reads what it says
pub number_from : {E : Type 0} (limit : ℕ) (bs : List ℕ) (r : Result ℕ E) → OkIff r ((all_ascii_digits bs ≡ true) × (0 < length bs) × (digits_value 10 bs < limit)) (digits_value 10 bs) → MatchOption (result_ok r) (number_said limit bs ≡ None) (λ n. number_said limit bs ≡ Some n)
number_from limit bs (Ok n) h = grind (arith, nat_tests)
number_from limit bs (Err e) h = grind (arith, nat_tests)

pub unless : (r : Bool) (P : Type 0) → Decides r P → r ≡ false → ¬ P
unless r P d f = λ p. false≢true (sym f ∙ d.1 p)
