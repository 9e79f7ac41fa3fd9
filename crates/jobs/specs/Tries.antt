-- Two loads. Assumes nothing.
use Rattle.std.specs.Prelude.{ℕ, List, [], ◌∷◌}
use Rattle.rules.specs.declared.gap.GapEntry.{GapEntry}
use Rattle.jobs.specs.declared.fault.ByteFault.TheVariants.{Ended}
use Rattle.jobs.specs.declared.fault.RecordFault.TheVariants.{Bytes}
use Rattle.jobs.specs.Jobs.{Lent, Loads, Fails}

abbrev pub first_job : List ℕ
first_job = 1 ∷ 0 ∷ 0 ∷ 0 ∷ 0 ∷ 0 ∷ 0 ∷ 0 ∷ 3 ∷ 1 ∷ 0 ∷ 0 ∷ 0 ∷ 0 ∷ 0 ∷ 0 ∷ 0 ∷ 3 ∷ 2 ∷ 0 ∷ 0 ∷ 0 ∷ 1 ∷ 1 ∷ 0 ∷ 0 ∷ 2 ∷ 0 ∷ 1 ∷ []

abbrev pub entry : ℕ → ℕ → ℕ → GapEntry
entry a b g = record { first = a; second = b; gap = g }

abbrev pub few_places : Lent
few_places = record { lists = 0 ∷ 0 ∷ 7 ∷ []; gaps = entry 0 0 0 ∷ []; tables = [] }

pub record Tries : Type 0 where
  -- an empty input: 1 at 0
  pub empty : (p : Lent) → Fails [] p (record { offset = 0; fault = Bytes Ended }) p
  -- two groups of channels 0 and 1 and one gap
  pub first : Loads first_job few_places (record { groups = 2; gaps = 1; tables = 0 }) (record { lists = 3 ∷ 3 ∷ 7 ∷ []; gaps = entry 0 1 1 ∷ []; tables = [] })
