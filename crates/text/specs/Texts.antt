-- How a job is written as text. Assumes nothing.
use Rattle.std.specs.Prelude.{◌≡◌, ℕ, zero, suc, List, [], ◌++◌, map, codes, decimal, ◌==◌, MatchBool}
use Rattle.rules.specs.Channels.{has}
use Rattle.rules.specs.Tables.{number, row}
use Rattle.jobs.specs.declared.record.Record.{Record}
use Rattle.jobs.specs.declared.record.Record.TheVariants.{End, Group, Gap, Table}
use Rattle.jobs.specs.Records.{Shows}
use Rattle.jobs.specs.Jobs.{after, places, Accepts, Refuses}
use Rattle.text.specs.declared.span.Span.{Span}
use Rattle.text.specs.declared.write.WriteFault.{WriteFault}
use Rattle.text.specs.declared.write.WriteFault.TheVariants.{Refused, NoMemory}
use Rattle.text.specs.Lists.{Apart, listed, ends, list_text}

-- a text that was written behind another is of this kind
abbrev pub Adds : (List ℕ → Type 0) → List ℕ → List ℕ → Type 0
Adds IsText old new = (bs : List ℕ) × IsText bs × (new ≡ old ++ bs)

-- how many bytes a record takes, with its byte of kind
abbrev pub size_of : Record → ℕ
size_of (End b) = 5
size_of (Group b) = 9
size_of (Gap b) = 6
size_of (Table b) = 517

-- why a job is not written
abbrev pub Unwritten : List ℕ → WriteFault → Type 0
Unwritten job (Refused f) = (i : ℕ) × Refuses job places f i
Unwritten job NoMemory = Unit {0}

-- the text of a set, behind the word of an item: spans with just its channels, of which none can be joined
abbrev pub ListText : ℕ → List ℕ → Type 0
ListText set bs = (ss : List Span) × ((c : ℕ) → has set c ≡ listed (map ends ss) c) × Apart 0 (map ends ss) × (bs ≡ list_text ss)

-- the line of a row, if the row has a channel
abbrev pub RowText : ℕ → ℕ → List ℕ → Type 0
RowText c set bs = MatchBool (set == 0) (bs ≡ []) ((l : List ℕ) × ListText set l × (bs ≡ decimal c ++ (codes ":" ++ (l ++ codes "\n"))))

-- the lines of the first n rows, which stand from a place on
abbrev pub RowsText : List ℕ → ℕ → ℕ → List ℕ → Type 0
RowsText body o zero bs = bs ≡ []
RowsText body o (suc n) bs = (xs ys : List ℕ) × RowsText body o n xs × RowText n (row body o n) ys × (bs ≡ xs ++ ys)

-- the lines of a table, by the body of its record
abbrev pub head_text : List ℕ → List ℕ
head_text body = codes "table " ++ (decimal (number body 0 2) ++ (codes " " ++ (decimal (number body 2 2) ++ codes "\n")))

abbrev pub TableText : List ℕ → List ℕ → Type 0
TableText body bs = (rs : List ℕ) × RowsText body 4 64 rs × (bs ≡ head_text body ++ rs)

-- the lines of a record
abbrev pub RecordText : Record → List ℕ → Type 0
RecordText (End b) bs = bs ≡ []
RecordText (Group b) bs = (l : List ℕ) × ListText (number b.now 0 8) l × (bs ≡ codes "group" ++ (l ++ codes "\n"))
RecordText (Gap b) bs = bs ≡ codes "gap " ++ (decimal (number b.now 0 2) ++ (codes " " ++ (decimal (number b.now 2 2) ++ (codes " " ++ (decimal (number b.now 4 1) ++ codes "\n")))))
RecordText (Table b) bs = TableText b.now bs

-- the lines of the first n records, in their order
abbrev pub RecordsText : List ℕ → ℕ → List ℕ → Type 0
RecordsText job zero bs = bs ≡ []
RecordsText job (suc n) bs = (x : Record) × (xs ys : List ℕ) × RecordsText job n xs × Shows x job (after job n).at × RecordText x ys × (bs ≡ xs ++ ys)

-- the text of a job that a load accepts: the lines of the records before its end
abbrev pub JobText : List ℕ → List ℕ → Type 0
JobText job bs = (i : ℕ) × Accepts job places i × RecordsText job i bs
