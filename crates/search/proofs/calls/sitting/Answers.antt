use Rattle.std.proofs.Common.{refl, rules}
use Rattle.rules.specs.Refusals.{told}
use Rattle.laws.proofs.Runs.{refused_sitting_continues}
use Rattle.search.specs.Sittings.{lent_in, request}
use Rattle.search.proofs.calls.sitting.Goals as goal

pub returns-in-Err : goal.returns-in-Err
returns-in-Err g c =
    let found = lent_in c.args.regions.now c.args.order.now c.args.policy.now in
    let q = request c.args.search c.args.lists.now (g.B.RuleBook.meaning c.args.book.now) c.args.allowance found in
    let e = c.in-Err.ensures in
    record {
      answers = record {
        number = e;
        handed_back = refl;
        same = refl;
        continues = λ own meant l t f. refused_sitting_continues own meant l t q f (told c.in-Err.refusal).0 (told c.in-Err.refusal).1 e;
      };
      same = search rules;
    }
