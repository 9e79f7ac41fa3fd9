use Rattle.std.proofs.Common.{rules}
use Rattle.rules.proofs.Checking.{check_means}
use Rattle.rules.proofs.check.check.Goals as goal

pub returns-clause-plan : goal.returns-clause-plan
returns-clause-plan g c =
    let m = g.B.RuleBook.meaning c.args.book.now in
    let law = g.B.RuleBook.lawful c.args.book.now in
    ((check_means c.args.lists.now m c.args.plan.now law).fits (search rules)).1
