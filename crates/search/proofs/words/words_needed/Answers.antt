use Rattle.std.proofs.Common.{◌∙◌, arith}
use Rattle.search.proofs.Marks.{count_taken, count_refused, taken_is, refused_is}
use Rattle.search.proofs.words.words_needed.Goals as goal
use Rattle.search.proofs.words.words_needed.Goals.{in-Taken, in-Refused}

pub loop-word-preserved : goal.loop-word-preserved
loop-word-preserved c =
    let ws = c.args.branch.now in
    let i = c.loop-word.word-index in
    let v = c.loop-word.invariant in
    elim c.match-from.branch [
      | in-Taken w ↦ (
          let h = count_taken ws i c.loop-word.taken c.loop-word.words (taken_is _ _ w.in-Taken.ensures).0 v.0 v.1 in
          (w.taken-is ∙ h.0, w.words-is ∙ h.1, omega (arith, w.taken-is), omega (arith, w.words-is)))
      | in-Refused w ↦ (
          let h = count_refused ws i c.loop-word.taken c.loop-word.words (refused_is _ _ w.in-Refused.ensures).0 v.0 v.1 in
          (w.taken-is ∙ h.0, w.words-is ∙ h.1, omega (arith, w.taken-is), omega (arith, w.words-is)))
    ]
