use Rattle.std.proofs.Common.{◌≡◌, ℕ, Some, sym}
use Rattle.propagation.proofs.Spacing.{spreads_both}
use Rattle.propagation.proofs.spreads.spread_rule.Goals as goal

pub returns-in-Some : goal.returns-in-Some
returns-in-Some g c =
    let m = g.B.RuleBook.meaning c.args.book.now in
    let e : ℕ × ℕ = (c.in-Some.first, c.in-Some.second) in
    let is : m.ends c.args.i ≡ Some e = sym c.in-Some.ensures.read in
    spreads_both m c.args.spreads.now c.widen.new.spreads c.widen-in-Some.new.spreads c.args.i e c.spread.result c.spread-in-Some.result c.requires.before is c.spread.ensures c.spread-in-Some.ensures
    c.widen.ensures.more c.widen.ensures.here c.widen.ensures.no_more c.widen.ensures.others
    c.widen-in-Some.ensures.more c.widen-in-Some.ensures.here c.widen-in-Some.ensures.no_more c.widen-in-Some.ensures.others
