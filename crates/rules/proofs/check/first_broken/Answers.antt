use Rattle.std.proofs.Common.{◌≡◌, true, false, rules, tests}
use Rattle.std.proofs.lemmas.Iterator.{first_from_Range}
use Rattle.rules.specs.Checks.{broken}
use Rattle.rules.proofs.Firsts.{lowest_in_range}
use Rattle.rules.proofs.check.first_broken.Goals as goal

pub returns : goal.returns
returns g c =
    let t = broken (g.B.RuleBook.meaning c.args.book.now) c.args.plan.now in
    lowest_in_range t c.count.result _ c.find.result c.count.ensures
    (first_from_Range _ _ _ _ (λ k. t k ≡ true) (λ k. t k ≡ false) c.find.ensures.ran
    (λ x q k. search (rules, tests)) (λ x q k. (search (rules, tests), search (rules, tests))))
