-- The regions of a sitting, and their sizes.
use Rattle.std.specs.Prelude.{◌≡◌, ℕ, length}
use Rattle.search.specs.declared.regions.Regions.{Regions}

-- The later regions are the very ones that were lent, of the sizes that they had.
pub record SameRegions (r r' : Regions) : Type 0 where
  pub domains : r'.domains.ghost_name ≡ r.domains.ghost_name
  pub marks : r'.marks.ghost_name ≡ r.marks.ghost_name
  pub ends : r'.ends.ghost_name ≡ r.ends.ghost_name
  pub settled : r'.settled.ghost_name ≡ r.settled.ghost_name
  pub branch : r'.branch.ghost_name ≡ r.branch.ghost_name
  pub plan : r'.plan.ghost_name ≡ r.plan.ghost_name
  pub base : r'.base.ghost_name ≡ r.base.ghost_name
  pub domains_size : length r'.domains.now ≡ length r.domains.now
  pub marks_size : length r'.marks.now ≡ length r.marks.now
  pub ends_size : length r'.ends.now ≡ length r.ends.now
  pub settled_size : length r'.settled.now ≡ length r.settled.now
  pub branch_size : length r'.branch.now ≡ length r.branch.now
  pub plan_size : length r'.plan.now ≡ length r.plan.now
  pub base_size : length r'.base.now ≡ length r.base.now

-- The sizes of the regions that a call only writes.
pub record Sizes : Type 0 where
  pub domains : ℕ
  pub marks : ℕ
  pub ends : ℕ
  pub settled : ℕ
  pub plan : ℕ

abbrev pub sizes : Regions → Sizes
sizes r = record { domains = length r.domains.now; marks = length r.marks.now; ends = length r.ends.now; settled = length r.settled.now; plan = length r.plan.now }
