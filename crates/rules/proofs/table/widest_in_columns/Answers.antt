use Rattle.std.proofs.Common.{length-set, ◌≡◌, ℕ, ◌-◌, ◌^◌, sym, subst, arith}
use Rattle.std.proofs.lemmas.List.{get_or-set_same, get_or-set_other}
use Rattle.rules.specs.Supports.{Least}
use Rattle.rules.proofs.Columns.{Lacking, column, lacking_on, lacking_all}
use Rattle.rules.proofs.Tabled.{row_lacks}
use Rattle.rules.proofs.table.widest_in_columns.Goals as goal

pub loop-a-preserved : goal.loop-a-preserved
loop-a-preserved c =
    let bs = c.args.job.now in
    let o = c.args.offset in
    let a = c.loop-a.a in
    let r = c.row-lacks.result in
    lacking_on bs o a c.loop-a.so_far c.loop-a.lacked _ c.loop-a.widest c.widened-widest.result (2 ^ 64 - 1 - r) c.loop-a.invariant c.loop-a-test.true (omega arith)
    (row_lacks bs o a r c.row-lacks.ensures (omega arith))
    (length-set c.loop-a.lacked a _) (get_or-set_same c.loop-a.lacked a _ 0 (omega (arith, c.loop-a.invariant.size))) (λ j l. get_or-set_other c.loop-a.lacked a j _ 0 (λ e. omega arith))
    c.widened-widest.ensures.wider c.widened-widest.ensures.within c.widened-widest.ensures.clear c.widened-widest.ensures.reached

pub returns : goal.returns
returns c =
    let bs = c.args.job.now in
    let o = c.args.offset in
    let e : c.loop-a.a ≡ 64 = omega arith in
    let f : c.from.result ≡ c.loop-a.widest = c.from.ensures in
    subst (Least (column bs o)) (sym f) (lacking_all bs o c.loop-a.so_far c.loop-a.lacked c.loop-a.widest
    (subst (λ (x : ℕ). Lacking bs o x c.loop-a.so_far c.loop-a.lacked c.loop-a.widest) e c.loop-a.invariant))
