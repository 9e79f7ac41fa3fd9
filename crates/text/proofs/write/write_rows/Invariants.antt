use Rattle.std.proofs.Common.{◌≡◌, ℕ, List, ◌++◌, string_bytes}
use Rattle.text.specs.Texts.{RowsText}
use Rattle.text.proofs.write.write_rows.Given as goal

-- the rows that were passed are written
abbrev pub invariant-loop-channel : goal.invariant-loop-channel
invariant-loop-channel l = (bs : List ℕ) × RowsText l.body 4 l.channel bs × (string_bytes l.out ≡ string_bytes l.initial.out ++ bs)
