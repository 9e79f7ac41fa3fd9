-- Assignments as words.
use Rattle.std.specs.Prelude.{ℕ, ◌/◌, ◌%◌}

-- An assignment is the word 64 × group + channel.
abbrev pub grp : ℕ → ℕ
grp w = w / 64

abbrev pub chan : ℕ → ℕ
chan w = w % 64
