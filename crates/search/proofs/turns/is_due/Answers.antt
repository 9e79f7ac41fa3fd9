use Rattle.std.proofs.Common.{sym, ◌∙◌, arith}
use Rattle.std.proofs.lemmas.Bool.{leb-true, leb-false}
use Rattle.search.proofs.States.{all_words}
use Rattle.search.proofs.turns.is_due.Goals as goal

pub returns-then-cutoff-at-clause-yes : goal.returns-then-cutoff-at-clause-yes
returns-then-cutoff-at-clause-yes g c t =
    let a = all_words c.args.at.now c.args.branch.now c.args.base.now c.requires.used c.requires.words in
    let h = leb-true _ _ (sym c.has_space.ensures ∙ t) in
    (omega (arith, c.cutoff.ensures), omega arith)

pub returns-then-cutoff-at-clause-no : goal.returns-then-cutoff-at-clause-no
returns-then-cutoff-at-clause-no g c f d =
    let a = all_words c.args.at.now c.args.branch.now c.args.base.now c.requires.used c.requires.words in
    let h = leb-false _ _ (sym c.has_space.ensures ∙ f) in
    let k = d.1 in
    omega arith
