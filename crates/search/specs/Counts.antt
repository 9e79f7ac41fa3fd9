-- The counts of a search.
use Rattle.std.specs.Prelude.{ℕ, ◌+◌, ◌≤◌}
use Rattle.search.specs.declared.held.Progress.{Progress}

-- The counts agree with each other, and leave room for so many moves.
pub record Counted (left : ℕ) (p : Progress) : Type 0 where
  pub moves : p.counts.moves + left ≤ 100000000
  pub closings : p.counts.closings ≤ p.counts.moves
  pub restarts : p.counts.restarts ≤ p.counts.moves
  pub since : p.since ≤ p.counts.closings
