-- A policy that answers two cutoffs in turn.
use Rattle.std.specs.Prelude.{ℕ, max}
use Rattle.branching.specs.Policy.{PolicyMeaning}

pub record Cutoffs : Type 0 where
  pub current : ℕ
  pub other : ℕ

-- 0 counts as 1
abbrev pub alternating : PolicyMeaning Cutoffs
alternating = record { cutoff = λ h. max h.current 1; next = λ h. record { current = h.other; other = h.current } }
