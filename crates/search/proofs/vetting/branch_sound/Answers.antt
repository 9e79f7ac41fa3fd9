use Rattle.std.proofs.Common.{◌&&◌, length, sym, ap, ◌∙◌}
use Rattle.model.specs.Decisions.{Decision, word}
use Rattle.model.specs.Words.{branch_of}
use Rattle.laws.specs.Words.{listed?, free?}
use Rattle.search.proofs.Vets.{branch_fails}
use Rattle.search.proofs.vetting.branch_sound.Goals as goal

pub returns-then-not-admit : goal.returns-then-not-admit
returns-then-not-admit c =
    let lists = c.args.lists.now in
    let ws = c.args.branch.now in
    let i = c.loop-word.word-index in
    let v = c.loop-word.invariant in
    sym (branch_fails lists ws i (length ws) c.loop-word-test.true
    (ap (λ (d : Decision). listed? lists (word d) && free? (word d) (branch_of ws i)) (sym c.from.ensures) ∙ sym (c.if-not-admit.ensures.verdict lists (branch_of ws i) (sym v.0) v.2)))
