-- The regions that propagation works in.
use Rattle.std.specs.Prelude.{◌≡◌, ℕ, ◌*◌, ◌≤◌, List, length, drop}
use Rattle.propagation.specs.declared.records.RuleEnd.{RuleEnd}
use Rattle.propagation.specs.declared.records.Assignment.{Assignment}
use Rattle.propagation.specs.declared.bench.Bench.{Bench}

-- The later bench has the very regions that the earlier one has, of the sizes that they had.
pub record SameRegions (b b' : Bench) : Type 0 where
  pub domains : b'.domains.ghost_name ≡ b.domains.ghost_name
  pub marks : b'.marks.ghost_name ≡ b.marks.ghost_name
  pub ends : b'.ends.ghost_name ≡ b.ends.ghost_name
  pub settled : b'.settled.ghost_name ≡ b.settled.ghost_name
  pub domains_size : length b'.domains.now ≡ length b.domains.now
  pub marks_size : length b'.marks.now ≡ length b.marks.now
  pub ends_size : length b'.ends.now ≡ length b.ends.now
  pub settled_size : length b'.settled.now ≡ length b.settled.now

-- Regions of these sizes are large enough for the groups and the rules.
pub record Roomy (groups rules : ℕ) (ds ms es ss : ℕ) : Type 0 where
  pub domains : groups ≤ ds
  pub marks : 256 ≤ ms
  pub ends : 2 * rules ≤ es
  pub settled : groups ≤ ss

-- Beyond the sizes that the groups and the rules need, the regions have what they had.
pub record Beyond (groups rules : ℕ) (ds ds' ms ms' : List ℕ) (es es' : List RuleEnd) (ss ss' : List Assignment) : Type 0 where
  pub domains : drop groups ds' ≡ drop groups ds
  pub marks : drop 256 ms' ≡ drop 256 ms
  pub ends : drop (2 * rules) es' ≡ drop (2 * rules) es
  pub settled : drop groups ss' ≡ drop groups ss
