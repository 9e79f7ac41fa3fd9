use Rattle.std.proofs.Common.{◌+◌, ◌++◌, length, drop, set, sym, ap, ◌∙◌, arith}
use Rattle.model.specs.Decisions.{takens}
use Rattle.model.specs.Words.{branch_of}
use Rattle.search.proofs.Marks.{takens_room, takens_refused, copy_step, taken_is, refused_is}
use Rattle.search.proofs.recording.copy_taken.Goals as goal
use Rattle.search.proofs.recording.copy_taken.Goals.{in-Taken, in_default}

pub loop-word-preserved : goal.loop-word-preserved
loop-word-preserved c =
    let v = c.loop-word.invariant in
    let ws = c.args.branch.now in
    let i = c.loop-word.word-index in
    let start = c.args.rest.now in
    elim c.match-from.branch [
      | in-Taken w ↦ (
          let t = taken_is _ _ w.in-Taken.ensures in
          let r = takens_room ws i (length ws) (length start) c.loop-word-test.true t.0 c.requires.room in
          let h = copy_step ws c.loop-word.rest start c.loop-word.n i t.0 v.0 (omega (arith, v.0)) v.1 in
          (w.n-is ∙ h.0, w.rest-is ∙ ap (λ k. set c.loop-word.rest c.loop-word.n k) t.1 ∙ h.1 ∙ ap (λ k. takens (branch_of ws (i + 1)) ++ drop k start) (sym w.n-is)))
      | in_default w ↦ (
          let t = takens_refused ws i (refused_is _ _ w.in_default.ensures).0 in (
            w.n-is ∙ v.0 ∙ ap length (sym t),
            w.rest-is ∙ v.1 ∙ ap (λ xs. xs ++ drop c.loop-word.n start) (sym t) ∙ ap (λ k. takens (branch_of ws (i + 1)) ++ drop k start) (sym w.n-is),
          ))
    ]

pub bounds-rest-n : goal.bounds-rest-n
bounds-rest-n c =
    let ws = c.args.branch.now in
    let r = takens_room ws c.loop-word.word-index (length ws) (length c.args.rest.now) c.loop-word-test.true (taken_is _ _ c.in-Taken.ensures).0 c.requires.room in
    omega (arith, c.loop-word.invariant.0)
