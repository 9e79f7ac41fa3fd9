use Rattle.std.proofs.Common.{◌≡◌, ℕ, ◌-◌, List, ◌++◌, length, string_bytes}
use Rattle.text.proofs.Records.{Written}
use Rattle.text.proofs.write.write_records.Given as goal

-- some records are written
abbrev pub invariant-loop-record : goal.invariant-loop-record
invariant-loop-record l = (bs : List ℕ) × Written l.job l.at bs × (string_bytes l.out ≡ string_bytes l.fn.out ++ bs)

abbrev pub decreases-loop-record : goal.decreases-loop-record
decreases-loop-record l = length l.job - l.at
