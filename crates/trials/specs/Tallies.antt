-- What an answer is counted as.
use Rattle.std.specs.Prelude.{ℕ, ◌+◌, Bool, true, false, ◌&&◌, ◌==◌, if◌then◌else◌, List, min, Some, None, Option, Ok, Err, Result, vec_items}
use Rattle.rules.specs.Refusals.{numbered, placed}
use Rattle.planner.specs.declared.answer.Answer.{Answer}
use Rattle.planner.specs.declared.answer.Verdict.{Verdict}
use Rattle.planner.specs.declared.answer.Verdict.TheVariants.{Plan, None as NoPlan, Open}
use Rattle.planner.specs.declared.error.PlanError.{PlanError}
use Rattle.planner.specs.declared.error.PlanError.TheVariants.{Refused, NoMemory}
use Rattle.trials.specs.declared.tally.Fronts.{Fronts}
use Rattle.trials.specs.declared.tally.Tally.{Tally}

-- one more, as far as a count can go
abbrev pub one_more : ℕ → ℕ
one_more n = min (n + 1) 4294967295

abbrev pub disagreeing : Tally → Tally
disagreeing t = record t { disagreements = one_more t.disagreements }

-- A verdict, where it is known whether there is a plan and which channels are one.
abbrev pub judged : Tally → Bool → (List ℕ → Bool) → Verdict → Tally
judged t solvable is_plan (Plan v) = if solvable && is_plan (vec_items v) then record t { plans = one_more t.plans } else disagreeing t
judged t true is_plan NoPlan = disagreeing t
judged t false is_plan NoPlan = record t { none = one_more t.none }
judged t solvable is_plan Open = record t { «open» = one_more t.«open» }

abbrev pub noted : Tally → Bool → (List ℕ → Bool) → Result Answer PlanError → Tally
noted t solvable is_plan (Ok a) = judged t solvable is_plan a.verdict
noted t solvable is_plan (Err _) = disagreeing t

abbrev pub misread : Fronts → Fronts
misread f = record f { disagreements = one_more f.disagreements }

-- The answer to an input that ends too early at a place: it is refused with number 1 there.
abbrev pub fronted : Fronts → Option ℕ → Result Answer PlanError → Fronts
fronted f None _ = misread f
fronted f (Some at) (Ok _) = misread f
fronted f (Some at) (Err NoMemory) = misread f
fronted f (Some at) (Err (Refused r)) = if numbered r == 1 && placed r == at then record f { refused = one_more f.refused } else misread f
