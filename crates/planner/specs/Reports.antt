-- What a report has to do with its job.
use Rattle.std.specs.Prelude.{◌≡◌, ℕ, ◌⊎◌, List, ◌++◌, take, vec_items, vec_len}
use Rattle.branching.specs.Order.{OrderMeaning}
use Rattle.branching.specs.Policy.{PolicyMeaning}
use Rattle.model.specs.Decisions.{reduced}
use Rattle.model.specs.Words.{branch_of, recorded}
use Rattle.model.specs.Moves.{nogoods}
use Rattle.search.specs.declared.held.Sat.{Sat}
use Rattle.search.specs.Ends.{counted, came_to}
use Rattle.planner.specs.declared.error.PlanError.{PlanError}
use Rattle.planner.specs.declared.error.PlanError.TheVariants.{Refused, NoMemory}
use Rattle.planner.specs.declared.memory.Memory.{Memory}
use Rattle.planner.specs.declared.report.Report.{Report}
use Rattle.planner.specs.declared.solve.Settings.{Settings}
use Rattle.planner.specs.Answers.{Shaped, reached, told_by, Searched, Answered}

-- A report tells what a search left in its regions: the answer, the used words of the branch, and the used words of the base with the reduced nogoods of that branch behind them.
pub record Tells (m : Memory) (t : Sat) (r : Report) : Type 0 where
  pub shaped : Shaped (vec_len m.plan) r.answer.verdict
  pub verdict : told_by r.answer.verdict ≡ reached (vec_items m.plan) t
  pub counts : r.answer.counts ≡ counted t
  pub base : r.answer.base ≡ m.base
  pub branch : vec_items r.branch ≡ take (came_to t).branch_len (vec_items m.branch)
  pub closed : vec_items r.closed ≡ take (came_to t).base_used (vec_items m.base) ++ recorded (reduced (branch_of (vec_items r.branch) (vec_len r.branch)))

-- A report has an answer. Of the very state that the answer's sittings came to, its closed words are the nogoods that shut choices out, all of them in their order and no other, and
-- its branch has the decisions.
abbrev pub Reported : {H Q : Type 0} → OrderMeaning H → PolicyMeaning Q → List ℕ → Settings → H → H → Q → Q → Report → Type 0
Reported om pm bs settings h h' q q' r = (x : Answered om pm bs settings h h' q q' r.answer)
    × (vec_items r.closed ≡ recorded (nogoods x.came.end)) × (branch_of (vec_items r.branch) (vec_len r.branch) ≡ x.came.end.branch)

-- What a call without a report leaves of an order o and a policy p: a refusal leaves them as they were. So does want of memory; or else the search was made, and memory was wanting for
-- its report.
abbrev pub Unreported : {O P H Q : Type 0} → OrderMeaning H → PolicyMeaning Q → (O → H) → (P → Q) → List ℕ → Settings → O → O → P → P → PlanError → Type 0
Unreported om pm order_holds policy_holds bs settings o o' p p' (Refused r) = (o' ≡ o) × (p' ≡ p)
Unreported om pm order_holds policy_holds bs settings o o' p p' NoMemory =
    ((o' ≡ o) × (p' ≡ p)) ⊎ ((m : Memory) × (t : Sat) × Searched om pm bs settings (order_holds o) (order_holds o') (policy_holds p) (policy_holds p') m t)
