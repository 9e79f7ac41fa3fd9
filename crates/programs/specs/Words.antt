-- What a word of the command line says as the value of an option. A word is its bytes.
use Rattle.std.specs.Prelude.{ℕ, Bool, ◌&&◌, List, [], ◌∷◌, length, Option, Some, None, option_map, option_and_then, nat_lt, nat_le, bytes_eq, codes, ◌==◌, if◌then◌else◌}
use Rattle.std.specs.Str.{all_ascii_digits}
use Rattle.std.specs.Str.Parse.{digits_value, without_leading_plus}
use Rattle.programs.specs.declared.options.GroupOrder.{GroupOrder}
use Rattle.programs.specs.declared.options.GroupOrder.TheVariants.{Fewest, Last}
use Rattle.programs.specs.declared.options.Restarts.{Restarts}
use Rattle.programs.specs.declared.options.Restarts.TheVariants.{Geometric, Steady}

-- the digits of a number are one or more, and nothing else
abbrev pub is_number : List ℕ → Bool
is_number ds = nat_lt 0 (length ds) && all_ascii_digits ds

abbrev pub within : ℕ → ℕ → ℕ → Bool
within least most n = nat_le least n && nat_le n most

-- the number that a word says by its digits, behind a plus or none, if it is in this range
abbrev pub number_in : ℕ → ℕ → List ℕ → Option ℕ
number_in least most word = let ds = without_leading_plus word in
    if is_number ds && within least most (digits_value 10 ds) then Some (digits_value 10 ds) else None

-- what stands behind these bytes at the front of a word, if they stand there
abbrev pub behind : List ℕ → List ℕ → Option (List ℕ)
behind [] word = Some word
behind (p ∷ ps) [] = None
behind (p ∷ ps) (b ∷ bs) = if p == b then behind ps bs else None

-- a number of sittings, and of moves of each
abbrev pub sittings_in : List ℕ → Option ℕ
sittings_in word = number_in 0 100000000 word

abbrev pub moves_in : List ℕ → Option ℕ
moves_in word = number_in 1 1000000 word

-- an order: `fewest`, or `last:K`
abbrev pub order_in : List ℕ → Option GroupOrder
order_in word = if bytes_eq word (codes "fewest") then Some Fewest
    else option_map (λ k. Last k) (option_and_then (λ rest. number_in 0 4294967295 rest) (behind (codes "last:") word))

-- a policy: `geometric`, or `steady:C`
abbrev pub policy_in : List ℕ → Option Restarts
policy_in word = if bytes_eq word (codes "geometric") then Some Geometric
    else option_map (λ c. Steady c) (option_and_then (λ rest. number_in 1 1000 rest) (behind (codes "steady:") word))
