use Rattle.std.proofs.Common.{◌≡◌, ◌++◌, take, vec_items}
use Rattle.jobs.specs.Writes.{all_written}
use Rattle.jobs.proofs.write.write_items.Given as goal

abbrev pub invariant-loop-x : goal.invariant-loop-x
invariant-loop-x l = vec_items l.out ≡ vec_items l.initial.out ++ all_written l.src (take l.x-index l.items)
