use Rattle.std.proofs.Common.{ℕ, get_or, arith, below_more}
use Rattle.model.specs.Words.{decision}
use Rattle.model.specs.Remains.{family, Obeys}
use Rattle.propagation.proofs.Starting.{obeys_inside}
use Rattle.propagation.proofs.start.decide_all.Goals as goal

pub loop-word-preserved : goal.loop-word-preserved
loop-word-preserved c =
    let i = c.loop-word.invariant in
    let d = c.decide.ensures in
    let ms = c.loop-word.domains in
    let ms' = c.decide.new.domains in
    let ws = c.args.branch.now in (
      λ x y h. i.0 x y (d.inside x y h),
      below_more (λ (x : ℕ). Obeys (family ms') (decision (get_or ws x 0))) c.loop-word.word-index (λ x l. obeys_inside (family ms') (family ms) (decision (get_or ws x 0)) d.inside (i.1 x l)) d.obeys,
      λ k o ins. d.within k (o c.loop-word.word-index (omega arith)) (i.2 k o ins),
    )
