use Rattle.std.proofs.Common.{ℕ, zero, suc, ◌<◌, refl, arith}
use Rattle.jobs.specs.Jobs.{Sound, room}
use Rattle.jobs.specs.Tries.{first_job, few_places}
use Rattle.jobs.proofs.laws.small_jobs_are_loaded.Goals as goal

before : (j : ℕ) → j < 3 → Sound first_job (room few_places) j
before zero h = record { fits = refl; more = refl }
before (suc zero) h = record { fits = refl; more = refl }
before (suc (suc zero)) h = record { fits = refl; more = refl }
before (suc (suc (suc j))) h = absurd (omega arith)

pub returns : goal.returns
returns c = record {
  empty = λ p. record {
    index = 0;
    refuses = record { before = λ j h. absurd (omega arith); within = omega arith; faulty = refl; placed = refl };
    places = refl;
  };
  first = record { index = 3; accepts = record { before = before; fits = refl; ends = refl }; counts = refl; places = refl };
}
