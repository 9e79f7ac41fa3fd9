use Rattle.std.proofs.Common.{rules, ◌≡◌, length, sym, subst}
use Rattle.branching.specs.Fewest.{FewestAnswer, fewest}
use Rattle.branching.specs.FewestLemmas.{fewest_of_is}
use Rattle.branching.proofs.order.FewestFirstOrder.group.Goals as goal

pub returns-clause-least : goal.returns-clause-least
returns-clause-least c =
    let ms = c.args.domains.now in
    let e : c.map.result ≡ fewest ms = search rules in
    subst (FewestAnswer ms) (sym e) (fewest_of_is ms (length ms))
