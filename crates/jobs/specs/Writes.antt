-- The bytes that records are written as. Assumes nothing.
use Rattle.std.specs.Prelude.{◌≡◌, ℕ, zero, suc, ◌+◌, ◌/◌, ◌%◌, ◌^◌, ◌<◌, ◌≤◌, Bool, true, false, cond, List, [], ◌∷◌, ◌++◌, length, take, drop, Some, None, Option, nat_le, slice_index_or}
use Rattle.jobs.specs.declared.item.Item.{Item}
use Rattle.jobs.specs.declared.item.Item.TheVariants.{Counts, Channels, Near, Rows}
use Rattle.jobs.specs.declared.judge.Room.{Room}
use Rattle.jobs.specs.declared.write.WriteFault.{WriteFault}
use Rattle.jobs.specs.declared.write.WriteFault.TheVariants.{TooMany, EndInside, NoRows, NoMemory}
use Rattle.jobs.specs.Judged.{wrong}
use Rattle.jobs.specs.Jobs.{State, start, grown, tally, ending, held, filled, room, Lent, Loads}

-- a number in n bytes, high byte first
abbrev pub bytes : ℕ → ℕ → List ℕ
bytes zero v = []
bytes (suc n) v = bytes n (v / 256) ++ ((v % 256) ∷ [])

-- one record. The rows of a table are those at its offset in src
abbrev pub written : List ℕ → Item → List ℕ
written src (Counts g r) = 0 ∷ (bytes 2 g ++ bytes 2 r)
written src (Channels l) = 1 ∷ bytes 8 l
written src (Near e) = 2 ∷ (bytes 2 e.first ++ (bytes 2 e.second ++ (e.gap ∷ [])))
written src (Rows e) = 3 ∷ (bytes 2 e.first ++ (bytes 2 e.second ++ take 512 (drop e.offset src)))

abbrev pub all_written : List ℕ → List Item → List ℕ
all_written src [] = []
all_written src (x ∷ xs) = written src x ++ all_written src xs

-- an item whose numbers fit their bytes and whose rows are there
abbrev pub Writable : List ℕ → Item → Type 0
Writable src (Counts g r) = (g < 65536) × (r < 65536)
Writable src (Channels l) = l < 2 ^ 64
Writable src (Near e) = (e.first < 65536) × (e.second < 65536)
Writable src (Rows e) = (e.first < 65536) × (e.second < 65536) × (e.offset + 512 ≤ length src)

-- the rows of an item are there
abbrev pub RowsIn : List ℕ → Item → Type 0
RowsIn src (Counts g r) = Unit {0}
RowsIn src (Channels l) = Unit {0}
RowsIn src (Near e) = Unit {0}
RowsIn src (Rows e) = e.offset + 512 ≤ length src

-- item k of a list of items
abbrev pub nth_item : List Item → ℕ → Item
nth_item xs k = slice_index_or xs k (Counts 0 0)

-- why the item at place k cannot be written
abbrev pub flaw : List ℕ → ℕ → Item → Option WriteFault
flaw src k (Counts g r) = Some (EndInside k)
flaw src k (Channels l) = None
flaw src k (Near e) = None
flaw src k (Rows e) = cond (nat_le (e.offset + 512) (length src)) None (Some (NoRows k))

-- no more items than an end record can count, and each can be written
pub record Flawless (src : List ℕ) (xs : List Item) : Type 0 where
  pub few : length xs ≤ 65535
  pub each : (k : ℕ) → k < length xs → flaw src k (nth_item xs k) ≡ None

-- the first item that cannot be written is that at place k, for the reason f
pub record Flawed (src : List ℕ) (xs : List Item) (k : ℕ) (f : WriteFault) : Type 0 where
  pub few : length xs ≤ 65535
  pub within : k < length xs
  pub before : (j : ℕ) → j < k → flaw src j (nth_item xs j) ≡ None
  pub faulty : flaw src k (nth_item xs k) ≡ Some f

-- when the items are not written for the reason f
abbrev pub Unwritten : List ℕ → List Item → WriteFault → Type 0
Unwritten src xs TooMany = 65535 < length xs
Unwritten src xs (EndInside k) = Flawed src xs k (EndInside k)
Unwritten src xs (NoRows k) = Flawed src xs k (NoRows k)
Unwritten src xs NoMemory = Flawless src xs

-- the item as it is read back at p: the rows then stand there
abbrev pub moved : ℕ → Item → Item
moved p (Counts g r) = Counts g r
moved p (Channels l) = Channels l
moved p (Near e) = Near e
moved p (Rows e) = Rows (record { first = e.first; second = e.second; offset = p + 5 })

-- what the items leave
abbrev pub told_all : State → List Item → State
told_all s [] = s
told_all s (x ∷ xs) = told_all (grown s (moved s.at x)) xs

-- whether an item is a group, or a rule
abbrev pub is_group : Item → Bool
is_group (Counts g r) = false
is_group (Channels l) = true
is_group (Near e) = false
is_group (Rows e) = false

abbrev pub is_rule : Item → Bool
is_rule (Counts g r) = false
is_rule (Channels l) = false
is_rule (Near e) = true
is_rule (Rows e) = true

-- the job of some groups and rules: their records and an end
abbrev pub job : List ℕ → List Item → List ℕ
job src xs = all_written src xs ++ written src (Counts (length (told_all start xs).lists) (length (told_all start xs).gaps + length (told_all start xs).tables))

-- each item is written and loaded without a fault, and is no end. (A job's size matters to an end alone.)
pub data Fitting (src : List ℕ) (m : Room) : State → List Item → Type 0 where
  none : {s : State} → Fitting src m s []
  more : {s : State} {x : Item} {xs : List Item} → Writable src x → ending x ≡ false → wrong 0 m (tally s) (moved s.at x) ≡ None → Fitting src m (grown s (moved s.at x)) xs → Fitting src m s (x ∷ xs)

-- a job that was written is loaded as it was
abbrev pub RoundTrip : Type 0
RoundTrip = (src : List ℕ) (xs : List Item) (p : Lent) → Fitting src (room p) start xs → 0 < length (told_all start xs).lists →
    Loads (job src xs) p (held (told_all start xs)) (filled (told_all start xs) p)
