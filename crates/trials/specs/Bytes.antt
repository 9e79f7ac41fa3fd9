-- The bytes of a small job.
use Rattle.std.specs.Prelude.{ℕ, ◌+◌, cond, List, [], ◌∷◌, ◌++◌, length, min, ◌==◌}
use Rattle.std.specs.Int.{to_be_bytes, w16, w64}
use Rattle.std.specs.List.{flat_map}
use Rattle.trials.specs.declared.job.Gap.{Gap}
use Rattle.trials.specs.declared.job.Table.{Table}
use Rattle.trials.specs.declared.job.Kind.{Kind}
use Rattle.trials.specs.declared.job.Kind.TheVariants.{Counts as OfCounts, Group as OfGroup, Gap as OfGap, Table as OfTable}

abbrev pub number : Kind → ℕ
number OfCounts = 0
number OfGroup = 1
number OfGap = 2
number OfTable = 3

-- how long a record is, by its first byte
abbrev pub record_length : ℕ → ℕ
record_length kind = cond (kind == 0) 5 (cond (kind == 1) 9 (cond (kind == 2) 6 517))

-- a record's kind, and two numbers
abbrev pub record_bytes : ℕ → ℕ × ℕ → List ℕ
record_bytes kind numbers = kind ∷ (to_be_bytes w16 numbers.0 ++ to_be_bytes w16 numbers.1)

abbrev pub group_bytes : ℕ → List ℕ
group_bytes list = 1 ∷ to_be_bytes w64 list

abbrev pub gap_bytes : Gap → List ℕ
gap_bytes g = record_bytes 2 (g.first, g.second) ++ (g.gap ∷ [])

abbrev pub table_bytes : Table → List ℕ
table_bytes t = record_bytes 3 (t.first, t.second) ++ flat_map (to_be_bytes w64) t.rows

-- the groups, the rules, and how many there are of each
abbrev pub job_bytes : List ℕ → List Gap → List Table → List ℕ
job_bytes lists gaps tables = ((flat_map group_bytes lists ++ flat_map gap_bytes gaps) ++ flat_map table_bytes tables) ++ record_bytes 0 (min (length lists) 65535, min (length gaps + length tables) 65535)
