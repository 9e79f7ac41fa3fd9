use Rattle.std.proofs.Common.{◌≡◌, ℕ, ◌+◌, ◌*◌, ◌/◌, ◌<◌, Option, sym, ap, ◌∙◌, subst, arith}
use Rattle.std.proofs.lemmas.List.{get_or-set_same}
use Rattle.branching.specs.Order.{GoodChoice}
use Rattle.branching.specs.Bits.{has_below}
use Rattle.branching.specs.FewestLemmas.{open_within}
use Rattle.search.proofs.moves.decide.Goals as goal

pub returns-clause-group : goal.returns-clause-group
returns-clause-group g c =
    let x = c.unwrap-group.result.0 in
    let y = c.unwrap-group.result.1 in
    let good = subst (λ (o : Option (ℕ × ℕ)). GoodChoice c.args.domains.now o) c.unwrap-group.ensures c.pick.ensures.good in
    let small : y < 64 = has_below 64 _ y (omega (arith, c.type_inv.domains x)) good.1 in
    let e : x ≡ (64 * x + y) / 64 = omega (arith, small) in
    e ∙ ap (λ (z : ℕ). z / 64) (sym c.assignment_word.ensures) ∙ ap (λ (z : ℕ). z / 64) (sym (get_or-set_same c.args.branch.now c.args.at.now.branch_len c.assignment_word.result 0 c.requires.room))

pub returns-clause-below : goal.returns-clause-below
returns-clause-below g c =
    let good = subst (λ (o : Option (ℕ × ℕ)). GoodChoice c.args.domains.now o) c.unwrap-group.ensures c.pick.ensures.good in
    open_within c.args.domains.now c.unwrap-group.result.0 good.0
