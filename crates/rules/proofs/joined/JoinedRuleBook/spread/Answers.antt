use Rattle.std.proofs.Common.{ℕ, ◌-◌, subst, arith}
use Rattle.rules.specs.Supports.{Spread}
use Rattle.rules.proofs.Apart.{first_spread, second_spread}
use Rattle.rules.proofs.joined.JoinedRuleBook.spread.Goals as goal

pub returns-then-i-n : goal.returns-then-i-n
returns-then-i-n g c =
    first_spread (g.P.RuleBook.meaning c.args.self.now.first) (g.Q.RuleBook.meaning c.args.self.now.second) c.args.i (omega (arith, c.if-i-n.true, c.count-n.ensures)) c.args.second c.spread.result c.spread.ensures

pub returns-then-i-lt4294967295 : goal.returns-then-i-lt4294967295
returns-then-i-lt4294967295 g c =
    let m = g.Q.RuleBook.meaning c.args.self.now.second in
    let w = c.spread-then-i-lt4294967295.result in
    second_spread (g.P.RuleBook.meaning c.args.self.now.first) m c.args.i (omega (arith, c.if-i-n.false, c.count-n.ensures)) c.if-i-lt4294967295.true c.args.second w
    (subst (λ (x : ℕ). Spread m (c.args.i - x) c.args.second w) c.count-n.ensures c.spread-then-i-lt4294967295.ensures)
