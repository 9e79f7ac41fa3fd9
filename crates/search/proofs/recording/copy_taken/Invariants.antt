use Rattle.std.proofs.Common.{◌≡◌, ◌++◌, length, drop}
use Rattle.model.specs.Decisions.{takens}
use Rattle.model.specs.Words.{branch_of}
use Rattle.search.proofs.recording.copy_taken.Given as goal

abbrev pub invariant-loop-word : goal.invariant-loop-word
invariant-loop-word l = (l.n ≡ length (takens (branch_of l.branch l.word-index))) × (l.rest ≡ takens (branch_of l.branch l.word-index) ++ drop l.n l.initial.rest)
