-- A job in the making. Assumes nothing.
use Rattle.std.specs.Prelude.{◌≡◌, ℕ, ◌+◌, ◌-◌, ◌*◌, ◌^◌, ◌⊎◌, Bool, true, false, cond, List, [], ◌∷◌, ◌++◌, length, take, drop, replicate, Some, None, Option, Ok, Err, Result, MatchResult, ◌==◌, nat_lt, bit_or, vec_items}
use Rattle.std.specs.Int.{to_be_bytes, w64}
use Rattle.std.specs.List.{slice_split}
use Rattle.std.specs.Str.{IsUtf8}
use Rattle.rules.specs.Channels.{has}
use Rattle.jobs.specs.declared.item.Item.{Item}
use Rattle.jobs.specs.declared.item.Item.TheVariants.{Channels, Near, Rows}
use Rattle.text.specs.declared.fault.Wrong.{Wrong}
use Rattle.text.specs.declared.fault.Lack.{Lack}
use Rattle.text.specs.declared.fault.Wrong.TheVariants.{Lacks, NoTable, SecondRow, NotText, TooMany, NoMemory}
use Rattle.text.specs.declared.line.Line.{Line}
use Rattle.text.specs.declared.line.Line.TheVariants.{Blank, Group, Gap, Table, Row}
use Rattle.text.specs.declared.draft.Draft.{Draft}
use Rattle.text.specs.Words.{missing}
use Rattle.text.specs.Lines.{Told, told, IsLine}

-- the items, the rows of the tables one table after another, and the set of rows that the last item was given, where it is a table
pub record Made : Type 0 where
  pub items : List Item
  pub rows : List ℕ
  pub given : Option ℕ

abbrev pub nothing : Made
nothing = record { items = []; rows = []; given = None }

abbrev pub made : Draft → Made
made d = record { items = vec_items d.items; rows = vec_items d.rows; given = d.given }

-- with one item more
abbrev pub with_item : Made → Item → Option ℕ → Made
with_item m x given = record { items = m.items ++ (x ∷ []); rows = m.rows; given = given }

-- some bytes in place of as many from a place on
abbrev pub replaced : List ℕ → ℕ → List ℕ → List ℕ
replaced bs at new = take at bs ++ (new ++ drop (at + length new) bs)

-- with the row of channel c of the last table
abbrev pub with_row : Made → ℕ → ℕ → ℕ → Made
with_row m g c set = record { items = m.items; rows = replaced m.rows (length m.rows - 512 + 8 * c) (to_be_bytes w64 set); given = Some (bit_or g (2 ^ c)) }

abbrev pub row_added : Option ℕ → Made → ℕ → ℕ → Made
row_added None m c set = m
row_added (Some g) m c set = with_row m g c set

-- what a line adds
abbrev pub added : Made → Line → Made
added m Blank = m
added m (Group l) = with_item m (Channels l) None
added m (Gap e) = with_item m (Near e) None
added m (Table a b) = record { items = m.items ++ (Rows (record { first = a; second = b; offset = length m.rows }) ∷ []); rows = m.rows ++ replicate 512 0; given = Some 0 }
added m (Row c l) = row_added m.given m c l

-- why it is not added
abbrev pub full : Made → Option Wrong
full m = cond (nat_lt (length m.items) 65535) None (Some TooMany)

abbrev pub row_wrong : Option ℕ → ℕ → Option Wrong
row_wrong None c = Some NoTable
row_wrong (Some g) c = cond (nat_lt c 64) (cond (has g c) (Some (SecondRow c)) None) (Some (SecondRow c))

abbrev pub wrong : Made → Line → Option Wrong
wrong m Blank = None
wrong m (Group l) = full m
wrong m (Gap e) = full m
wrong m (Table a b) = full m
wrong m (Row c l) = row_wrong m.given c

-- memory may be wanting for a line that adds an item, where it fits
abbrev pub adds_item : Line → Bool
adds_item Blank = false
adds_item (Group l) = true
adds_item (Gap e) = true
adds_item (Table a b) = true
adds_item (Row c l) = false

abbrev pub Wants : Bool → Option Wrong → Wrong → Type 0
Wants grows due w = (w ≡ NoMemory) × (grows ≡ true) × (due ≡ None)

-- a try to make x of m: it comes about where nothing is due, and for what is due all stays as it was; where memory is wanting nothing is said of what is left
abbrev pub Tried : Bool → Option Wrong → Made → Made → Result (Unit {0}) Wrong → Made → Type 0
Tried grows due m x r n = MatchResult r (λ _. (due ≡ None) × (n ≡ x)) (λ w. Wants grows due w ⊎ ((due ≡ Some w) × (n ≡ m)))

-- what adding a line answers, and what it leaves
abbrev pub Adding : Made → Line → Result (Unit {0}) Wrong → Made → Type 0
Adding m l r n = Tried (adds_item l) (wrong m l) m (added m l) r n

-- a line that is taken in says an item, which is added
pub record Takes (m : Made) (w : List ℕ) (n : Made) : Type 0 where
  pub says : Told
  pub line : Line
  pub said : told w ≡ Ok says
  pub means : IsLine says line
  pub fits : wrong m line ≡ None
  pub adds : n ≡ added m line

-- why a line is not taken in: it is no text, or misses something, or what it says is not added, or there is no memory
pub data Refuses (m : Made) (w : List ℕ) (x : Wrong) : Type 0 where
  no_text : ¬ (IsUtf8 w) → x ≡ NotText → Refuses m w x
  no_item : (l : Lack) → told w ≡ Err (missing l) → x ≡ Lacks l → Refuses m w x
  not_added : (t : Told) (l : Line) → told w ≡ Ok t → IsLine t l → wrong m l ≡ Some x → Refuses m w x
  no_memory : (t : Told) (l : Line) → told w ≡ Ok t → IsLine t l → Wants (adds_item l) (wrong m l) x → Refuses m w x

-- the lines of a text, the byte 10 between them
abbrev pub lines : List ℕ → List (List ℕ)
lines bs = slice_split (λ b. b == 10) bs

-- what lines build, one after another
abbrev pub Builds : Made → List (List ℕ) → Made → Type 0
Builds m [] n = n ≡ m
Builds m (w ∷ ws) n = (k : Made) × Takes m w k × Builds k ws n

-- the first line that is not taken in, where k lines stand before it
pub record Stuck (text : List ℕ) (k : ℕ) (x : Wrong) : Type 0 where
  pub before : List (List ℕ)
  pub line : List ℕ
  pub behind : List (List ℕ)
  pub made : Made
  pub split : lines text ≡ before ++ (line ∷ behind)
  pub count : length before ≡ k
  pub builds : Builds nothing before made
  pub refuses : Refuses made line x
