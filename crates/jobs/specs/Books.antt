-- The book of a loaded job: its gaps joined with its tables. Assumes nothing.
use Rattle.std.specs.Prelude.{◌≡◌, ℕ, ◌+◌, ◌<◌, List, length, take, slice_index_or}
use Rattle.rules.specs.Channels.{Has}
use Rattle.rules.specs.Laws.{Differ, Permits}
use Rattle.rules.specs.Meanings.{Meaning}
use Rattle.rules.specs.Gaps.{gaps, no_gap}
use Rattle.rules.specs.Tables.{tables, no_table, row}
use Rattle.rules.specs.Joins.{joined}
use Rattle.jobs.specs.declared.judge.Room.{Room}
use Rattle.rules.specs.declared.gap.GapEntry.{GapEntry}
use Rattle.rules.specs.declared.table.TableEntry.{TableEntry}
use Rattle.jobs.specs.declared.load.Loaded.{Loaded}
use Rattle.jobs.specs.Jobs.{State, after, Accepts, Lent, room, Loads}
use Rattle.jobs.specs.Laws.{Good}

-- of n loaded entries, in places that hold gs and ts
abbrev pub book_at : List ℕ → Loaded → List GapEntry → List TableEntry → Meaning
book_at bs n gs ts = joined (gaps n.groups (take n.gaps gs)) (tables n.groups bs (take n.tables ts))

-- of what the records of a job say
abbrev pub book_of : List ℕ → State → Meaning
book_of bs s = joined (gaps (length s.lists) s.gaps) (tables (length s.lists) bs s.tables)

-- Rule k is the record k of the gaps, then of the tables: it binds the two groups of its record, and permits
-- two channels that differ by at least the gap, or whose bit is set in the record's rows.
pub record Binds (bs : List ℕ) (s : State) : Type 0 where
  pub groups : (book_of bs s).groups ≡ length s.lists
  pub count : (book_of bs s).count ≡ length s.gaps + length s.tables
  pub gaps : (k : ℕ) → k < length s.gaps →
      Permits (book_of bs s) k (slice_index_or s.gaps k no_gap).first (slice_index_or s.gaps k no_gap).second (Differ (slice_index_or s.gaps k no_gap).gap)
  pub tables : (k : ℕ) → k < length s.tables →
      Permits (book_of bs s) (length s.gaps + k) (slice_index_or s.tables k no_table).first (slice_index_or s.tables k no_table).second
      (λ a b. Has (row bs (slice_index_or s.tables k no_table).offset a) b)

abbrev pub BookBinds : Type 0
BookBinds = (bs : List ℕ) (m : Room) (i : ℕ) → Accepts bs m i → Binds bs (after bs i)

-- After a load that leaves q: the lists and the book at the front of the places are those of the job's
-- records, of which there are 1 to 200 groups and up to 4,096 rules, none blank.
pub record JobBook (bs : List ℕ) (p : Lent) (n : Loaded) (q : Lent) : Type 0 where
  pub index : ℕ
  pub accepts : Accepts bs (room p) index
  pub groups : n.groups ≡ length (after bs index).lists
  pub lists : take n.groups q.lists ≡ (after bs index).lists
  pub book : book_at bs n q.gaps q.tables ≡ book_of bs (after bs index)
  pub some : 0 < n.groups
  pub good : Good bs (after bs index)
  pub binds : Binds bs (after bs index)

abbrev pub LoadedBook : Type 0
LoadedBook = (bs : List ℕ) (p : Lent) (n : Loaded) (q : Lent) → Loads bs p n q → JobBook bs p n q
