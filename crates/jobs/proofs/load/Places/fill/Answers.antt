use Rattle.std.proofs.Common.{rules, refl, ◌∙◌, suc}
use Rattle.jobs.proofs.Fills.{filling_none, next_fits, next_taken, filling_more}
use Rattle.jobs.proofs.load.Places.fill.Goals as goal

pub loop-item-init : goal.loop-item-init
loop-item-init c = record {
  job = c.new-reader.ensures.job;
  room = c.new-reader.ensures.room ∙ c.room.ensures;
  lists = refl;
  gaps = refl;
  tables = refl;
  filling = (0, filling_none _ _ _ c.new-reader.ensures.seen);
}

pub read-requires : goal.read-requires
read-requires c =
    let i = c.loop-item.invariant in
    next_fits _ _ _ _ _ _ _ i.job i.room c.requires.1 i.filling.1.reached

pub loop-item-preserved : goal.loop-item-preserved
loop-item-preserved c =
    let h = c.in-Some.ensures in
    let t = c.take_in.ensures in
    let i = c.loop-item.invariant in
    let k = next_taken _ _ _ _ _ _ _ _ _ _ c.take_in.result i.job i.room c.requires.1 i.filling.1.reached h.0 h.2 t.seen in
    record {
      job = t.job ∙ i.job;
      room = t.room ∙ i.room;
      lists = search rules;
      gaps = search rules;
      tables = search rules;
      filling = (suc i.filling.0, filling_more _ _ _ _ _ _ _ _ i.filling.1 k (search rules));
    }
