-- Which options the words of the command line choose, and how a wrong word is told.
use Rattle.std.specs.Prelude.{ℕ, ◌*◌, Bool, true, false, List, [], ◌∷◌, Option, Some, None, Result, Ok, Err, unwrap_or, nat_le, bytes_eq, codes, if◌then◌else◌}
use Rattle.std.specs.Option.{option_or}
use Rattle.programs.specs.declared.options.GroupOrder.TheVariants.{Last}
use Rattle.programs.specs.declared.options.Restarts.TheVariants.{Geometric}
use Rattle.programs.specs.declared.options.Options.{Options}
use Rattle.programs.specs.declared.options.Wrong.{Wrong}
use Rattle.programs.specs.declared.options.Wrong.TheVariants.{Option as NoOption, Value, Sittings, Moves, Together, Order, Policy}
use Rattle.programs.specs.Words.{sittings_in, moves_in, order_in, policy_in}

-- The words from the left are pairs of a name and a value; the last may be a name without one.
abbrev pub pairs : List (List ℕ) → List (List ℕ × List ℕ)
pairs [] = []
pairs (name ∷ []) = []
pairs (name ∷ value ∷ words) = (name, value) ∷ pairs words

abbrev pub ends_in_a_name : List (List ℕ) → Bool
ends_in_a_name [] = false
ends_in_a_name (name ∷ []) = true
ends_in_a_name (name ∷ value ∷ words) = ends_in_a_name words

-- What is wrong with a pair, if anything.
abbrev pub unless_said : {A : Type 0} → Option A → Wrong → Option Wrong
unless_said (Some x) w = None
unless_said None w = Some w

abbrev pub wrong_pair : List ℕ × List ℕ → Option Wrong
wrong_pair p =
    if bytes_eq p.0 (codes "--sittings") then unless_said (sittings_in p.1) Sittings
    else (if bytes_eq p.0 (codes "--moves") then unless_said (moves_in p.1) Moves
    else (if bytes_eq p.0 (codes "--order") then unless_said (order_in p.1) Order
    else (if bytes_eq p.0 (codes "--policy") then unless_said (policy_in p.1) Policy
    else Some NoOption)))

-- The first wrong pair decides.
abbrev pub first_wrong : List (List ℕ × List ℕ) → Option Wrong
first_wrong [] = None
first_wrong (p ∷ ps) = option_or (wrong_pair p) (first_wrong ps)

-- What the last pair with this name says, or what stands without one.
module _ {A : Type 0} (name : List ℕ) (says : List ℕ → Option A) where
  abbrev pub last_said : A → List (List ℕ × List ℕ) → A
  last_said without [] = without
  last_said without (p ∷ ps) = last_said (if bytes_eq p.0 name then unwrap_or (says p.1) without else without) ps

-- without options: what the account of a job is searched with
abbrev pub default : Options
default = record { sittings = 100; moves = 10000; order = Last 1; restarts = Geometric }

-- these options, with what the pairs say in their place
abbrev pub said : Options → List (List ℕ × List ℕ) → Options
said o ps = record {
  sittings = last_said (codes "--sittings") sittings_in o.sittings ps;
  moves = last_said (codes "--moves") moves_in o.moves ps;
  order = last_said (codes "--order") order_in o.order ps;
  restarts = last_said (codes "--policy") policy_in o.restarts ps;
}

-- at most so many moves in all sittings
abbrev pub if_few : Options → Result Options Wrong
if_few o = if nat_le (o.sittings * o.moves) 100000000 then Ok o else Err Together

abbrev pub unless_wrong : Option Wrong → Result Options Wrong → Result Options Wrong
unless_wrong (Some w) r = Err w
unless_wrong None r = r

-- The options that the words choose over these, or what is wrong with the words.
abbrev pub chosen_over : Options → List (List ℕ) → Result Options Wrong
chosen_over o words = unless_wrong (first_wrong (pairs words)) (if ends_in_a_name words then Err Value else if_few (said o (pairs words)))

abbrev pub chosen : List (List ℕ) → Result Options Wrong
chosen words = chosen_over default words

-- how each is told, in one line
abbrev pub wrong_text : Wrong → List ℕ
wrong_text NoOption = codes "there is no such option: there are --sittings N, --moves N, --order fewest or last:K, --policy geometric or steady:C"
wrong_text Value = codes "the last option has no value"
wrong_text Sittings = codes "--sittings wants a number from 0 to 100000000"
wrong_text Moves = codes "--moves wants a number from 1 to 1000000"
wrong_text Together = codes "the sittings have more than 100000000 moves together"
wrong_text Order = codes "--order wants fewest or last:K, K a number"
wrong_text Policy = codes "--policy wants geometric or steady:C, C a number from 1 to 1000"
