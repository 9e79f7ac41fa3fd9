-- Laws of the books, in the words of the field. Assumes nothing.
use Rattle.std.specs.Prelude.{◌≡◌, ℕ, ◌+◌, ◌-◌, ◌*◌, ◌<◌, ◌≤◌, min, max, Bool, true, false, List, length, Some, None, Decides, slice_index_or}
use Rattle.rules.specs.Channels.{Has}
use Rattle.rules.specs.Gaps.{gaps, no_gap}
use Rattle.rules.specs.Joins.{joined}
use Rattle.rules.specs.Meanings.{Meaning, Lawful, Apart, most}
use Rattle.rules.specs.Supports.{Spread}
use Rattle.rules.specs.Tables.{tables, no_table, row}
use Rattle.rules.specs.declared.gap.GapEntry.{GapEntry}
use Rattle.rules.specs.declared.table.TableEntry.{TableEntry}

-- The two channels differ by at least the gap: a minus that would go below 0 is 0, so one of the two is the difference.
abbrev pub Differ : ℕ → ℕ → ℕ → Type 0
Differ gap a b = gap ≤ (a - b) + (b - a)

-- Rule i binds nothing and permits nothing.
pub record Blank (book : Meaning) (i : ℕ) : Type 0 where
  pub ends : book.ends i ≡ None
  pub permits : (a b : ℕ) → book.permits i a b ≡ false

-- A rule of a book over a list of entries: it binds its two groups, and permits exactly what holds of two channels.
pub record Permits (book : Meaning) (i g h : ℕ) (P : ℕ → ℕ → Type 0) : Type 0 where
  pub ends : book.ends i ≡ Some (g, h)
  pub permits : (a b : ℕ) → a < 64 → b < 64 → Decides (book.permits i a b) (P a b)
  pub high : (a b : ℕ) → book.permits i a b ≡ true → (a < 64) × (b < 64)

-- A gap book: rule i is entry i.
pub record GapLaws (n : ℕ) (es : List GapEntry) : Type 0 where
  pub groups : (gaps n es).groups ≡ n
  pub count : (gaps n es).count ≡ min (length es) most
  pub binds : (i : ℕ) → i < min (length es) most → Apart n ((slice_index_or es i no_gap).first, (slice_index_or es i no_gap).second) →
      Permits (gaps n es) i (slice_index_or es i no_gap).first (slice_index_or es i no_gap).second (Differ (slice_index_or es i no_gap).gap)
  pub equal : (i : ℕ) → (slice_index_or es i no_gap).first ≡ (slice_index_or es i no_gap).second → Blank (gaps n es) i
  pub first : (i : ℕ) → n ≤ (slice_index_or es i no_gap).first → Blank (gaps n es) i
  pub second : (i : ℕ) → n ≤ (slice_index_or es i no_gap).second → Blank (gaps n es) i
  -- the widest gap, and none
  pub widest : (i : ℕ) → i < min (length es) most → Apart n ((slice_index_or es i no_gap).first, (slice_index_or es i no_gap).second) → (slice_index_or es i no_gap).gap ≡ 63 →
      ((gaps n es).permits i 0 63 ≡ true) × ((gaps n es).permits i 0 62 ≡ false)
  pub none : (i a : ℕ) → i < min (length es) most → Apart n ((slice_index_or es i no_gap).first, (slice_index_or es i no_gap).second) → (slice_index_or es i no_gap).gap ≡ 0 → a < 64 →
      (gaps n es).permits i a a ≡ true
  -- of two channels twice the gap apart, less one, each is the gap away from one; no two are 64 apart
  pub spread : (i : ℕ) (s : Bool) → i < min (length es) most → Apart n ((slice_index_or es i no_gap).first, (slice_index_or es i no_gap).second) →
      Spread (gaps n es) i s (min (2 * (slice_index_or es i no_gap).gap - 1) 64)

-- A table book: rule i is entry i, and row a is the number in the 8 bytes from the entry's offset + 8 × a on.
pub record TableLaws (n : ℕ) (bs : List ℕ) (es : List TableEntry) : Type 0 where
  pub groups : (tables n bs es).groups ≡ n
  pub count : (tables n bs es).count ≡ min (length es) most
  pub binds : (i : ℕ) → i < min (length es) most → Apart n ((slice_index_or es i no_table).first, (slice_index_or es i no_table).second) → (slice_index_or es i no_table).offset + 512 ≤ length bs →
      Permits (tables n bs es) i (slice_index_or es i no_table).first (slice_index_or es i no_table).second (λ a b. Has (row bs (slice_index_or es i no_table).offset a) b)
  pub equal : (i : ℕ) → (slice_index_or es i no_table).first ≡ (slice_index_or es i no_table).second → Blank (tables n bs es) i
  pub first : (i : ℕ) → n ≤ (slice_index_or es i no_table).first → Blank (tables n bs es) i
  pub second : (i : ℕ) → n ≤ (slice_index_or es i no_table).second → Blank (tables n bs es) i
  -- rows past the job's end
  pub past : (i : ℕ) → length bs < (slice_index_or es i no_table).offset + 512 → Blank (tables n bs es) i

-- A joined book: the first's rules, then the second's, up to the most that a book has.
pub record JoinedLaws (f s : Meaning) : Type 0 where
  pub groups : (joined f s).groups ≡ max f.groups s.groups
  pub count : (joined f s).count ≡ min (f.count + s.count) most
  pub first : (i : ℕ) → i < f.count → ((joined f s).ends i ≡ f.ends i) × ((a b : ℕ) → (joined f s).permits i a b ≡ f.permits i a b)
  pub second : (i : ℕ) → f.count + i < most → ((joined f s).ends (f.count + i) ≡ s.ends i) × ((a b : ℕ) → (joined f s).permits (f.count + i) a b ≡ s.permits i a b)

abbrev pub GapBooks : Type 0
GapBooks = (n : ℕ) (es : List GapEntry) → GapLaws n es

abbrev pub TableBooks : Type 0
TableBooks = (n : ℕ) (bs : List ℕ) (es : List TableEntry) → TableLaws n bs es

abbrev pub JoinedBooks : Type 0
JoinedBooks = (f s : Meaning) → JoinedLaws f s

-- A rule has one spread at each end, which is at most 64, and 0 past the count.
pub record SpreadLaws (book : Meaning) (i : ℕ) (s : Bool) : Type 0 where
  pub some : (w : ℕ) × Spread book i s w
  pub one : (v w : ℕ) → Spread book i s v → Spread book i s w → v ≡ w
  pub within : (w : ℕ) → Spread book i s w → w ≤ 64
  pub past : (w : ℕ) → Spread book i s w → book.count ≤ i → w ≡ 0

abbrev pub OneSpread : Type 0
OneSpread = (book : Meaning) → Lawful book → (i : ℕ) (s : Bool) → SpreadLaws book i s
