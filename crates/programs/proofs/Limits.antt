-- The options that words choose are within the limits.
use Rattle.std.proofs.Common.{◌≡◌, ℕ, ◌*◌, ◌≤◌, Bool, true, false, ◌&&◌, List, [], ◌∷◌, Some, None, Option, Ok, Err, Result, IfOk, unwrap_or, nat_le, codes, bytes_eq, refl, sym, subst, arith, if◌then◌else◌}
use Rattle.std.proofs.lemmas.Bool.Decides.{nat_tests}
use Rattle.std.specs.Str.Parse.{digits_value, without_leading_plus}
use Rattle.planner.specs.Answers.{refusal_of}
use Rattle.programs.specs.declared.options.Options.{Options}
use Rattle.programs.specs.declared.options.Wrong.{Wrong}
use Rattle.programs.specs.Words.{is_number, within as in_range, moves_in}
use Rattle.programs.specs.Chosen.{pairs, first_wrong, ends_in_a_name, last_said, said, if_few, unless_wrong, default, chosen}
use Rattle.programs.specs.Reported.{settings_of}

abbrev Allowance : ℕ → Type 0
Allowance n = (1 ≤ n) × (n ≤ 1000000)

range_of : (t : Bool) (n : ℕ) → (t && in_range 1 1000000 n) ≡ true → Allowance n
range_of t n e = (grind (arith, nat_tests), grind (arith, nat_tests))

-- a word says an allowance, or none
said_allowance : (t : Bool) (n d : ℕ) → (t ≡ true → Allowance n) → Allowance d → Allowance (unwrap_or (if t then Some n else None) d)
said_allowance true n d f k = f refl
said_allowance false n d f k = k

word_allowance : (word : List ℕ) (d : ℕ) → Allowance d → Allowance (unwrap_or (moves_in word) d)
word_allowance word d k =
    let ds = without_leading_plus word in
    let n = digits_value 10 ds in
    said_allowance (is_number ds && in_range 1 1000000 n) n d (λ e. (range_of (is_number ds) n e)) k

one_said : (t : Bool) (n d : ℕ) → Allowance n → Allowance d → Allowance (if t then n else d)
one_said true n d f k = f
one_said false n d f k = k

moves_within : (ps : List (List ℕ × List ℕ)) (d : ℕ) → Allowance d → Allowance (last_said (codes "--moves") moves_in d ps)
moves_within [] d k = k
moves_within (p ∷ ps) d k = moves_within ps _ (one_said (bytes_eq p.0 (codes "--moves")) _ d (word_allowance p.1 d k) k)

few_within : (o : Options) (t : Bool) (w : Wrong) → nat_le (o.sittings * o.moves) 100000000 ≡ t → Allowance o.moves → IfOk (if t then Ok o else Err w) (λ o. refusal_of (settings_of o) ≡ None)
few_within o true w e k =
    let least : nat_le 1 o.moves ≡ true = grind (arith, nat_tests) in
    let most : nat_le o.moves 1000000 ≡ true = grind (arith, nat_tests) in
    rw (least, most, e) refl
few_within o false w e k = tt

chosen_within : (w : Option Wrong) (t : Bool) (x : Wrong) (o : Options) → Allowance o.moves → IfOk (unless_wrong w (if t then Err x else if_few o)) (λ o. refusal_of (settings_of o) ≡ None)
chosen_within (Some w) t x o k = tt
chosen_within None true x o k = tt
chosen_within None false x o k = few_within o _ _ refl k

-- What is chosen is due no refusal.
pub within : (words : List (List ℕ)) (r : Result Options Wrong) → r ≡ chosen words → IfOk r (λ o. refusal_of (settings_of o) ≡ None)
within words r e = subst (λ (z : Result Options Wrong). IfOk z (λ o. refusal_of (settings_of o) ≡ None)) (sym e)
    (chosen_within (first_wrong (pairs words)) (ends_in_a_name words) _ (said default (pairs words)) (moves_within (pairs words) 10000 (omega arith, omega arith)))
