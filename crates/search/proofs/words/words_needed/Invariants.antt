use Rattle.std.proofs.Common.{◌≡◌, ◌*◌, ◌≤◌, length}
use Rattle.model.specs.Decisions.{takens, reduced}
use Rattle.model.specs.Words.{branch_of, recorded}
use Rattle.search.proofs.words.words_needed.Given as goal

abbrev pub invariant-loop-word : goal.invariant-loop-word
invariant-loop-word l =
    (l.taken ≡ length (takens (branch_of l.branch l.word-index))) × (l.words ≡ length (recorded (reduced (branch_of l.branch l.word-index))))
    × (l.taken ≤ l.word-index) × (l.words ≤ 12802 * l.word-index)
