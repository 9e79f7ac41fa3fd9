use Rattle.std.proofs.Common.{◌≡◌, ℕ, ◌+◌, ◌-◌, ◌^◌, max, sym, subst, arith, rules, tests}
use Rattle.rules.specs.Channels.{has}
use Rattle.rules.specs.Tables.{row}
use Rattle.rules.proofs.Digits.{has_below}
use Rattle.rules.proofs.Tabled.{row_lacks}
use Rattle.rules.proofs.Spreading.{Widest, widest_on, widest_all}
use Rattle.rules.proofs.table.widest_in_rows.Goals as goal

pub loop-a-preserved : goal.loop-a-preserved
loop-a-preserved c =
    let goes = λ (a b : ℕ). has (row c.args.job.now c.args.offset a) b in
    let a = c.loop-a.a in
    let w = c.loop-a.widest in
    let r = c.row.result in
    let e : c.max-widest.result ≡ max w c.span.result = search (rules, tests) in
    subst (Widest goes (a + 1)) (sym e)
    (widest_on goes a w (2 ^ 64 - 1 - r) c.span.result c.loop-a.invariant c.loop-a-test.true
    (row_lacks c.args.job.now c.args.offset a r c.row.ensures (omega arith)) (λ b h. has_below (2 ^ 64 - 1 - r) b (omega arith) h) c.span.ensures)

pub returns : goal.returns
returns c =
    let goes = λ (a b : ℕ). has (row c.args.job.now c.args.offset a) b in
    let e : c.loop-a.a ≡ 64 = omega arith in
    widest_all goes c.loop-a.widest (subst (λ (x : ℕ). Widest goes x c.loop-a.widest) e c.loop-a.invariant)
