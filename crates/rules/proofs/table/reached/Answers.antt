use Rattle.std.proofs.Common.{ℕ, bit_or, subst, sym}
use Rattle.rules.proofs.Tabled.{Gathered, gathered_on}
use Rattle.rules.proofs.table.reached.Goals as goal

pub loop-a-preserved : goal.loop-a-preserved
loop-a-preserved c =
    subst (λ (x : ℕ). Gathered c.args.job.now c.args.offset c.args.across (bit_or c.loop-a.all x) c.next.new.self.0) (sym c.row-all.ensures)
    (gathered_on c.args.job.now c.args.offset c.args.across c.loop-a.all c.loop-a.a-iterator.0 c.in-Some.a c.next.new.self.0 c.loop-a.invariant c.in-Some.ensures.steps.1 c.in-Some.ensures.steps.2)
