use Rattle.std.proofs.Common.{◌≡◌, ◌-◌, ◌*◌, true, min, is_some, get_or, sym, subst, rules, tests}
use Rattle.rules.specs.Gaps.{gaps, no_gap}
use Rattle.rules.specs.Supports.{Spread}
use Rattle.rules.proofs.Apart.{wide_spread}
use Rattle.rules.proofs.gap.GapBookRuleBook.spread.Goals as goal

pub returns : goal.returns
returns c =
    let n = c.args.self.now.groups in
    let es = c.args.self.now.entries.now in
    let i = c.args.i in
    let bound : is_some ((gaps n es).ends i) ≡ true = search (rules, tests) in
    let e : c.min.result ≡ min (2 * (get_or es i no_gap).gap - 1) 64 = search (rules, tests) in
    subst (Spread (gaps n es) i c.args._second) (sym e) (wide_spread n es i bound c.args._second)
