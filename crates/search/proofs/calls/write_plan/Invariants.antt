use Rattle.std.proofs.Common.{◌≡◌, ℕ, ◌^◌, ◌<◌, length, get_or, drop}
use lib.Count.{count_trailing_zeros}
use Rattle.search.proofs.calls.write_plan.Given as goal

abbrev pub invariant-loop-group : goal.invariant-loop-group
invariant-loop-group l =
    ((g : ℕ) → g < l.group → get_or l.plan g 64 ≡ count_trailing_zeros 64 (get_or l.domains g 0))
    × ((g : ℕ) → g < l.group → get_or l.domains g 0 < 2 ^ 64)
    × (drop (length l.domains) l.plan ≡ drop (length l.domains) l.initial.plan)
