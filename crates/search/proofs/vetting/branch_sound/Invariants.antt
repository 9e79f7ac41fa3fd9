use Rattle.std.proofs.Common.{◌≡◌, true, length}
use Rattle.model.specs.Words.{branch_of}
use Rattle.laws.specs.Words.{branch?}
use Rattle.search.specs.Calls.{FreeFor}
use Rattle.search.proofs.vetting.branch_sound.Given as goal

abbrev pub invariant-loop-word : goal.invariant-loop-word
invariant-loop-word l = (length l.free ≡ length l.lists) × (branch? l.lists (branch_of l.branch l.word-index) ≡ true) × FreeFor l.lists l.free (branch_of l.branch l.word-index)
