use Rattle.std.proofs.Common.{suc, pow-suc, arith}
use Rattle.rules.proofs.Rows.{highest_has}
use Rattle.rules.proofs.bits.highest.Goals as goal

pub returns-clause-most : goal.returns-clause-most
returns-clause-most c = λ j h.
    let p = pow-suc 2 c.ilog2.result in
    let l = highest_has c.args.set (suc c.ilog2.result) j (omega (arith, c.ilog2.ensures.next_power_gt)) h in
    omega arith
