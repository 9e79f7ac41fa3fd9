use Rattle.std.proofs.Common.{◌≡◌, map, length, string_bytes}
use Rattle.programs.specs.Chosen.{chosen_over, chosen}
use Rattle.programs.proofs.options.read.Given as goal

-- The words that are left choose over the options so far what all of them choose.
abbrev pub invariant-loop-left : goal.invariant-loop-left
invariant-loop-left l = chosen_over l.options (map (λ w. string_bytes w) l.left) ≡ chosen (map (λ w. string_bytes w) l.fn.words)

abbrev pub decreases-loop-left : goal.decreases-loop-left
decreases-loop-left l = length l.left
