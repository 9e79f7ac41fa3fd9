use Rattle.std.proofs.Common.{true, false, sym, ◌∙◌, arith}
use Rattle.search.proofs.Vets.{base_turn, base_stops}
use Rattle.search.proofs.vetting.base_sound.Goals as goal
use Rattle.search.proofs.vetting.base_sound.Goals.{then-nogood-count-via-then-nogood-count, then-nogood-count-via-else-nogood-count+then-not-nogood_sound}

pub returns-then-nogood-count : goal.returns-then-nogood-count
returns-then-nogood-count c =
    let lists = c.args.lists.now in
    let words = c.loop-count.count-iterator.0.now in
    let nogood = c.in-Some.nogood.now in
    let rest = c.next.new.self.0.now in
    let n = c.in-Some.count in
    let e = c.in-Some.ensures.steps in
    elim c.then-nogood-count.branch [
      | then-nogood-count-via-then-nogood-count w ↦ sym (c.loop-count.invariant.2 ∙ base_stops lists words nogood rest n e w.if-nogood-count.true)
      | then-nogood-count-via-else-nogood-count+then-not-nogood_sound w ↦ sym (c.loop-count.invariant.2 ∙ base_turn lists words nogood rest n false e (omega (arith, w.if-nogood-count.false)) w.if-not-nogood_sound.ensures)
    ]

pub loop-count-preserved : goal.loop-count-preserved
loop-count-preserved c = (
  tt,
  tt,
  c.loop-count.invariant.2 ∙ base_turn c.args.lists.now c.loop-count.count-iterator.0.now c.in-Some.nogood.now c.next.new.self.0.now c.in-Some.count true c.in-Some.ensures.steps
      (omega (arith, c.if-nogood-count.false)) c.if-not-nogood_sound.ensures,
)
