use Rattle.std.proofs.Common.{◌≡◌, true, is_some, refl, arith, rules, tests}
use Rattle.rules.specs.Tables.{tables}
use Rattle.rules.proofs.Tabled.{met_kept, reached_kept}
use Rattle.rules.proofs.table.TableBookRuleBook.backed.Goals as goal

pub returns-then-second : goal.returns-then-second
returns-then-second c =
    let n = c.args.self.now.groups in
    let bs = c.args.self.now.job.now in
    let es = c.args.self.now.entries.now in
    let bound : is_some ((tables n bs es).ends c.args.i) ≡ true = search (rules, tests) in
    rw c.if-second.true (reached_kept n bs es c.args.i bound c.args.set c.args.across _ (omega (arith, c.ranges.set.fits)) (omega (arith, c.ranges.across.fits)) c.reached.result c.reached.ensures refl)

pub returns-else-second : goal.returns-else-second
returns-else-second c =
    let n = c.args.self.now.groups in
    let bs = c.args.self.now.job.now in
    let es = c.args.self.now.entries.now in
    let bound : is_some ((tables n bs es).ends c.args.i) ≡ true = search (rules, tests) in
    rw c.if-second.false (met_kept n bs es c.args.i bound c.args.set c.args.across _ (omega (arith, c.ranges.set.fits)) (omega (arith, c.ranges.across.fits)) c.meeting.ensures)
