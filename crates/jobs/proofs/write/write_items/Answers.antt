use Rattle.jobs.specs.declared.item.Item.TheVariants.{Counts}
use Rattle.jobs.proofs.Trips.{written_more}
use Rattle.jobs.proofs.write.write_items.Goals as goal

pub loop-x-preserved : goal.loop-x-preserved
loop-x-preserved c =
    written_more _ _ _ _ _ _ (Counts 0 0) c.loop-x-test.true c.loop-x.invariant c.in_ok-write_item.ensures
