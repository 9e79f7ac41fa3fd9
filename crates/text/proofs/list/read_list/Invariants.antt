use Rattle.std.proofs.Common.{length}
use denote.Text.{Utf8}
use denote.Shadow.{shadow}
use Rattle.text.proofs.Readings.{Reading}
use Rattle.text.proofs.list.read_list.Given as goal

abbrev pub invariant-loop-word : goal.invariant-loop-word
invariant-loop-word l = shadow (Utf8 l.rest) × Reading l.text l.rest l.set

abbrev pub decreases-loop-word : goal.decreases-loop-word
decreases-loop-word l = length l.rest
