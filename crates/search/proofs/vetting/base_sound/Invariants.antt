use Rattle.std.proofs.Common.{◌≡◌}
use Rattle.laws.specs.Words.{base?}
use Rattle.search.proofs.vetting.base_sound.Given as goal

abbrev pub invariant-loop-count : goal.invariant-loop-count
invariant-loop-count l = goal.iterator-loop-count.can_next l.count-iterator × goal.iterator-loop-count.is_finite l.count-iterator × (base? l.lists l.base ≡ base? l.lists l.count-iterator.0.now)
