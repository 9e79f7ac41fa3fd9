-- What a job is loaded into: exactly what its records say, with places for every job within the limits.
use Rattle.std.specs.Prelude.{◌≡◌, ℕ, List, vec_items, vec_len}
use Rattle.rules.specs.declared.gap.GapEntry.{GapEntry}
use Rattle.rules.specs.declared.table.TableEntry.{TableEntry}
use Rattle.jobs.specs.declared.fault.LoadFault.{LoadFault}
use Rattle.jobs.specs.declared.judge.Room.{Room}
use Rattle.jobs.specs.declared.load.Loaded.{Loaded}
use Rattle.jobs.specs.Jobs.{after, held, places, Accepts, Refuses}
use Rattle.planner.specs.declared.error.PlanError.{PlanError}
use Rattle.planner.specs.declared.error.PlanError.TheVariants.{Refused, NoMemory}
use Rattle.planner.specs.declared.store.Store.{Store}
use Rattle.jobs.specs.Numbers.{numbered}
use Rattle.rules.specs.Refusals.{told}

-- the lists, gaps and tables are those of the job's records, which have no fault
abbrev pub Taken : List ℕ → Room → Loaded → List ℕ → List GapEntry → List TableEntry → Type 0
Taken bs m n ls gs ts = (i : ℕ) × Accepts bs m i × (n ≡ held (after bs i)) × (ls ≡ (after bs i).lists) × (gs ≡ (after bs i).gaps) × (ts ≡ (after bs i).tables)

-- the job's first fault
abbrev pub Faulty : List ℕ → Room → LoadFault → Type 0
Faulty bs m f = (i : ℕ) × Refuses bs m f i

-- how many lists, gaps and tables a store has
abbrev pub numbers : Store → Loaded
numbers s = record { groups = vec_len s.lists; gaps = vec_len s.gaps; tables = vec_len s.tables }

-- a store has what the job says
abbrev pub Stored : List ℕ → Store → Type 0
Stored bs s = Taken bs places (numbers s) (vec_items s.lists) (vec_items s.gaps) (vec_items s.tables)

-- there is none where the job has a fault, which the refusal tells, or where memory is wanting
abbrev pub Unstored : List ℕ → PlanError → Type 0
Unstored bs (Refused r) = (f : LoadFault) × Faulty bs places f × (told r ≡ (numbered f.fault, f.offset))
Unstored bs NoMemory = Unit {0}
