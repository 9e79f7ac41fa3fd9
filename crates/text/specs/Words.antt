-- What the words of a line say. Assumes nothing.
use Rattle.std.specs.Prelude.{ℕ, Bool, cond, ◌&&◌, List, [], length, Some, None, Option, Ok, Err, Result, ◌==◌, nat_lt}
use Rattle.std.specs.List.{before_first, after_first, position_or_len}
use Rattle.std.specs.Str.{all_ascii_digits, trim}
use Rattle.std.specs.Str.Parse.{digits_value}
use Rattle.text.specs.declared.fault.Expected.{Expected}
use Rattle.text.specs.declared.fault.Expected.TheVariants.{Group, Distance, Channel}
use Rattle.text.specs.declared.fault.Lack.{Lack}

-- whether a text has a byte, what stands before the first such byte (all of a text that has none), and what after it
abbrev pub has_byte : ℕ → List ℕ → Bool
has_byte c bs = nat_lt (position_or_len (λ b. b == c) bs) (length bs)

abbrev pub before : ℕ → List ℕ → List ℕ
before c bs = before_first (λ b. b == c) bs

abbrev pub behind : ℕ → List ℕ → List ℕ
behind c bs = after_first (λ b. b == c) bs

-- a word and what follows it, at the first space (32)
abbrev pub word : List ℕ → List ℕ
word bs = before 32 bs

abbrev pub after_word : List ℕ → List ℕ
after_word bs = cond (has_byte 32 bs) (trim (behind 32 bs)) []

-- the number that a word says, where it is below a limit: one digit or more, and nothing else
abbrev pub number_said : ℕ → List ℕ → Option ℕ
number_said limit w = cond (nat_lt 0 (length w) && all_ascii_digits w && nat_lt (digits_value 10 w) limit) (Some (digits_value 10 w)) None

-- what stands before a comment (35), without spaces around
abbrev pub said : List ℕ → List ℕ
said bs = trim (cond (has_byte 35 bs) (before 35 bs) bs)

-- what a text should have, and what stands there
abbrev pub Missing : Type 0
Missing = Expected × List ℕ

abbrev pub missing : Lack → Missing
missing l = (l.expected, l.found.now)

-- the number of a word, or that something else is expected there
abbrev pub due : Expected → List ℕ → Option ℕ → Result ℕ Missing
due e w None = Err (e, w)
due e w (Some n) = Ok n

abbrev pub group_said : List ℕ → Result ℕ Missing
group_said w = due Group w (number_said 65536 w)

abbrev pub distance_said : List ℕ → Result ℕ Missing
distance_said w = due Distance w (number_said 256 w)

abbrev pub channel_said : List ℕ → Result ℕ Missing
channel_said w = due Channel w (number_said 64 w)
