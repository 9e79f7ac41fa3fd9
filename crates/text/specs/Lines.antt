-- What a line says. Assumes nothing.
use Rattle.std.specs.Prelude.{◌≡◌, ℕ, cond, List, length, Ok, Err, Result, codes, ◌==◌}
use Rattle.std.specs.Str.{bytes_eq, trim}
use Rattle.text.specs.declared.fault.Expected.TheVariants.{Item, End}
use Rattle.text.specs.declared.line.Keyword as keys
use Rattle.text.specs.declared.line.Line.{Line}
use Rattle.text.specs.declared.line.Line.TheVariants.{Blank, Group, Gap, Table, Row}
use Rattle.text.specs.Words.{Missing, word, after_word, group_said, distance_said, channel_said, has_byte, before, behind, said}
use Rattle.text.specs.Lists.{Ends, list_said, IsSet}

-- an item, with its list as spans
pub data Told : Type 0 where
  blank : Told
  group : List Ends → Told
  gap : ℕ → ℕ → ℕ → Told
  table : ℕ → ℕ → Told
  row : ℕ → List Ends → Told

abbrev pub keyword : List ℕ → keys.Keyword
keyword w = cond (length w == 0) keys.TheVariants.Blank
    (cond (bytes_eq w (codes "group")) keys.TheVariants.Group
    (cond (bytes_eq w (codes "gap")) keys.TheVariants.Gap
    (cond (bytes_eq w (codes "table")) keys.TheVariants.Table keys.TheVariants.Other)))

-- what is said, where nothing is left behind it
abbrev pub alone : {A : Type 0} → List ℕ → A → Result A Missing
alone rest x = cond (length rest == 0) (Ok x) (Err (End, word rest))

-- a list, and nothing behind it
abbrev pub lone : List ℕ → Result (List Ends) Missing → Result (List Ends) Missing
lone rest (Ok ss) = alone rest ss
lone rest (Err x) = Err x

abbrev pub lone_said : List ℕ → Result (List Ends) Missing
lone_said bs = lone (after_word bs) (list_said (word bs))

abbrev pub group_told : Result (List Ends) Missing → Result Told Missing
group_told (Ok ss) = Ok (group ss)
group_told (Err x) = Err x

-- three numbers, and nothing behind them
abbrev pub gap_of : List ℕ → Result ℕ Missing → Result ℕ Missing → Result ℕ Missing → Result Told Missing
gap_of rest (Ok a) (Ok b) (Ok d) = alone rest (gap a b d)
gap_of rest (Ok a) (Ok b) (Err x) = Err x
gap_of rest (Ok a) (Err x) d = Err x
gap_of rest (Err x) b d = Err x

abbrev pub gap_told : List ℕ → Result Told Missing
gap_told bs = gap_of (after_word (after_word (after_word bs))) (group_said (word bs)) (group_said (word (after_word bs))) (distance_said (word (after_word (after_word bs))))

-- two numbers, and nothing behind them
abbrev pub table_of : List ℕ → Result ℕ Missing → Result ℕ Missing → Result Told Missing
table_of rest (Ok a) (Ok b) = alone rest (table a b)
table_of rest (Ok a) (Err x) = Err x
table_of rest (Err x) b = Err x

abbrev pub table_told : List ℕ → Result Told Missing
table_told bs = table_of (after_word (after_word bs)) (group_said (word bs)) (group_said (word (after_word bs)))

-- a channel, a colon (58) and a list
abbrev pub row_of : Result ℕ Missing → Result (List Ends) Missing → Result Told Missing
row_of (Ok c) (Ok ss) = Ok (row c ss)
row_of (Ok c) (Err x) = Err x
row_of (Err x) o = Err x

abbrev pub row_told : List ℕ → Result Told Missing
row_told bs = cond (has_byte 58 bs) (row_of (channel_said (before 58 bs)) (lone_said (trim (behind 58 bs)))) (Err (Item, word bs))

abbrev pub item_told : keys.Keyword → List ℕ → Result Told Missing
item_told keys.TheVariants.Blank bs = Ok blank
item_told keys.TheVariants.Group bs = group_told (lone_said (after_word bs))
item_told keys.TheVariants.Gap bs = gap_told (after_word bs)
item_told keys.TheVariants.Table bs = table_told (after_word bs)
item_told keys.TheVariants.Other bs = row_told bs

-- what the line says, or what it misses first
abbrev pub told : List ℕ → Result Told Missing
told bs = item_told (keyword (word (said bs))) (said bs)

-- the item, with its list as a set
abbrev pub IsLine : Told → Line → Type 0
IsLine blank l = l ≡ Blank
IsLine (group ss) l = (set : ℕ) × (l ≡ Group set) × IsSet (Ok ss) set
IsLine (gap a b d) l = l ≡ Gap (record { first = a; second = b; gap = d })
IsLine (table a b) l = l ≡ Table a b
IsLine (row c ss) l = (set : ℕ) × (l ≡ Row c set) × IsSet (Ok ss) set
