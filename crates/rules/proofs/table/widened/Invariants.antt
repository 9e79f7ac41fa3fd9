use Rattle.std.proofs.Common.{◌≡◌, ◌+◌, ◌-◌, ◌<◌, ◌≤◌, bit_and, get_or}
use Rattle.rules.proofs.table.widened.Given as goal

abbrev pub invariant-loop-w : goal.invariant-loop-w
invariant-loop-w l = record {
  wider : l.initial.w ≤ l.w;
  within : l.w ≤ l.a + 1;
  reached : l.initial.w < l.w → bit_and (get_or l.lacked (l.a - (l.w - 1)) 0) l.lacks ≡ 0 → ⊥;
}

abbrev pub decreases-loop-w : goal.decreases-loop-w
decreases-loop-w l = l.a + 1 - l.w
