use Rattle.std.proofs.Common.{◌≡◌, ℕ, ◌+◌, ◌-◌, ◌^◌, true, not, max, is_some, sym, ap, ◌∙◌, subst, arith, rules, tests}
use Rattle.rules.specs.Supports.{allows, Kept}
use Rattle.rules.proofs.Digits.{shifted, has_below}
use Rattle.rules.proofs.Rows.{not_has}
use Rattle.rules.proofs.Spreading.{Widest, widest_on, widest_all, backed_one, spread_bound}
use Rattle.rules.proofs.book.RuleBook.spread.Goals as goal

pub loop-a-preserved : goal.loop-a-preserved
loop-a-preserved g c =
    let m = g.Self.RuleBook.meaning c.args.self.now in
    let i = c.args.i in
    let s = c.args.second in
    let a = c.loop-a.a in
    let w = c.loop-a.widest in
    let kept = c.backed-missed.result in
    let k : Kept m i (not s) (2 ^ 64 - 1) (2 ^ a) kept = subst (λ (x : ℕ). Kept m i (not s) (2 ^ 64 - 1) x kept) (shifted 64 a c.loop-a-test.true) c.backed-missed.ensures in
    let e : c.max-widest.result ≡ max w c.span.result = search (rules, tests) in
    subst (Widest (allows m i s) (a + 1)) (sym e)
    (widest_on (allows m i s) a w (2 ^ 64 - 1 - kept) c.span.result c.loop-a.invariant c.loop-a-test.true
    (λ b l. not_has kept b (omega arith) l ∙ ap not (backed_one m i s a kept k b l)) (λ b h. has_below (2 ^ 64 - 1 - kept) b (omega arith) h) c.span.ensures)

pub returns : goal.returns
returns g c =
    let m = g.Self.RuleBook.meaning c.args.self.now in
    let bound : is_some (m.ends c.args.i) ≡ true = search (rules, tests) in
    let e : c.loop-a.a ≡ 64 = omega arith in
    spread_bound m c.args.i c.args.second c.loop-a.widest bound (widest_all (allows m c.args.i c.args.second) c.loop-a.widest
    (subst (λ (x : ℕ). Widest (allows m c.args.i c.args.second) x c.loop-a.widest) e c.loop-a.invariant))
