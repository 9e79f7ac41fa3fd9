use Rattle.std.proofs.Common.{arith}
use Rattle.rules.specs.Tables.{Meets}
use Rattle.rules.proofs.Tabled.{row_misses, row_meets}
use Rattle.rules.proofs.Taking.{keeping_on, keeping_less}
use Rattle.rules.proofs.table.meeting.Goals as goal

pub loop-a-preserved-then-met-eq0 : goal.loop-a-preserved-then-met-eq0
loop-a-preserved-then-met-eq0 c =
    keeping_less (Meets c.args.job.now c.args.offset c.args.across) c.args.set c.loop-a.rest c.loop-a.a-iterator.0 c.in-Some.a c.next.new.self.0 c.loop-a.invariant c.in-Some.ensures.steps.2
    c.without-rest.result (row_misses c.args.job.now c.args.offset c.args.across c.in-Some.a c.row.result c.row.ensures c.if-met-eq0.true) c.without-rest.ensures.bits

pub loop-a-preserved : goal.loop-a-preserved
loop-a-preserved c =
    keeping_on (Meets c.args.job.now c.args.offset c.args.across) c.args.set c.loop-a.rest c.loop-a.a-iterator.0 c.in-Some.a c.next.new.self.0 c.loop-a.invariant c.in-Some.ensures.steps.2
    (row_meets c.args.job.now c.args.offset c.args.across c.in-Some.a c.row.result c.row.ensures (omega (arith, c.ranges.across.fits)) c.if-met-eq0.false)
