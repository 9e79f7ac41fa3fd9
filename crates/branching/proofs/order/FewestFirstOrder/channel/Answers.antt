use Rattle.std.proofs.Common.{◌≡◌, get_or, ap, ◌∙◌, subst, arith}
use Rattle.std.specs.Int.Count.{count_trailing_zeros}
use Rattle.branching.specs.Channels.{Lowest}
use Rattle.branching.specs.Fewest.{lowest}
use Rattle.branching.specs.Bits.{trailing_lowest}
use Rattle.branching.specs.FewestLemmas.{lowest_by}
use Rattle.branching.proofs.order.FewestFirstOrder.channel.Goals as goal

pub returns-clause-answer : goal.returns-clause-answer
returns-clause-answer c =
    let m = c.in_ok-m.field-0.now in
    let is : m ≡ get_or c.args.domains.now c.args.group 0 = c.in_ok-m.ensures.lookup.3.1 0 ∙ ap (λ g. get_or c.args.domains.now g 0) c.from.ensures in
    lowest_by 64 m c.if-m-eq0.false (omega (arith, is, c.type_inv.domains c.args.group)) ∙ ap lowest is

pub returns-clause-least : goal.returns-clause-least
returns-clause-least c =
    let m = c.in_ok-m.field-0.now in
    let is : m ≡ get_or c.args.domains.now c.args.group 0 = c.in_ok-m.ensures.lookup.3.1 0 ∙ ap (λ g. get_or c.args.domains.now g 0) c.from.ensures in
    subst (λ x. Lowest x (count_trailing_zeros 64 m)) is (trailing_lowest 64 m (omega (arith, c.if-m-eq0.false)) (omega (arith, is, c.type_inv.domains c.args.group)))
