-- From what a search left to its report.
use Rattle.std.proofs.Common.{◌≡◌, ℕ, ◌*◌, ◌<◌, ◌≤◌, List, ◌++◌, length, take, replicate, Ok, Err, Result, MatchResult, IfOk, IfErr, IsOkUnless, inr, refl, sym, ap, ◌∙◌, subst, vec_items, vec_len, arith}
use Rattle.std.proofs.lemmas.List.{length-append}
use Rattle.std.proofs.Math.Seq.{take-append_seam}
use Rattle.branching.specs.Order.{OrderMeaning}
use Rattle.branching.specs.Policy.{PolicyMeaning}
use Rattle.model.specs.Decisions.{Decision, reduced}
use Rattle.model.specs.Words.{branch_of, recorded}
use Rattle.model.specs.Moves.{State, nogoods}
use Rattle.propagation.proofs.Indexing.{recorded_join}
use Rattle.laws.specs.Requests.{Request}
use Rattle.laws.proofs.Runs.{undisturbed}
use Rattle.search.specs.declared.held.Sat.{Sat}
use Rattle.search.specs.Ends.{came_to}
use Rattle.search.specs.Calls.{asking}
use Rattle.search.proofs.Along.{found_open}
use Rattle.search.proofs.Fronts.{whole_branch}
use Rattle.jobs.specs.Jobs.{after}
use Rattle.jobs.specs.Books.{book_of}
use Rattle.jobs.proofs.Goods.{loads_good}
use Rattle.planner.specs.declared.error.PlanError.{PlanError}
use Rattle.planner.specs.declared.error.PlanError.TheVariants.{NoMemory}
use Rattle.planner.specs.declared.memory.Memory.{Memory}
use Rattle.planner.specs.declared.report.Report.{Report}
use Rattle.planner.specs.declared.solve.Settings.{Settings}
use Rattle.jobs.specs.Jobs.{places}
use Rattle.planner.specs.Answers.{Searched, Unanswered, RefusedAsDue, reached}
use Rattle.planner.specs.Reports.{Tells, Reported, Unreported}
use Rattle.planner.proofs.Openings.{answered, as_due}

module _ {H Q : Type 0} (om : OrderMeaning H) (pm : PolicyMeaning Q) (bs : List ℕ) (settings : Settings) (h h' : H) (q q' : Q) where
  module _ (m : Memory) (t : Sat) (x : Searched om pm bs settings h h' q q' m t) where
    -- The branch region is that of at most 200 groups.
    pub short_branch : vec_len m.branch ≤ 12800
    short_branch = let few = (loads_good bs places x.job x.accepts).1.groups in omega (arith, x.branch, few)

    -- The used words of the base are the recorded nogoods.
    used_words : take (came_to t).base_used (vec_items m.base) ≡ recorded x.came.end.base
    used_words =
        let r = recorded x.came.end.base in
        ap (λ (n : ℕ). take n (vec_items m.base)) x.used ∙ (ap (λ (ws : List ℕ). take (length r) ws) x.written.1 ∙ take-append_seam r (replicate x.written.0 0))

    used_within : (came_to t).base_used ≤ length (vec_items m.base)
    used_within =
        let size = ap length x.written.1 in
        let parts = length-append (recorded x.came.end.base) (replicate x.written.0 0) in
        omega (arith, x.used, size, parts)

    abbrev next : Request
    next =
        let lists = (after bs x.job).lists in
        asking (length lists) (came_to t) lists 0 0 0 (record { domains = 0; marks = 0; ends = 0; settled = 0; plan = 0 }) (vec_items m.branch) (vec_items m.base)

    branch_within : (came_to t).branch_len ≤ length (vec_items m.branch)
    branch_within =
        let lists = (after bs x.job).lists in
        let found = found_open (length lists) (came_to t) lists 0 0 0 (record { domains = 0; marks = 0; ends = 0; settled = 0; plan = 0 }) (vec_items m.branch) (vec_items m.base) x.came.end refl x.stands used_words used_within in
        let few : (came_to t).branch_len < 64 * length lists = (undisturbed lists (book_of bs (after bs x.job)) (reached (vec_items m.plan) t) x.came.end x.run next found).2 in
        omega (arith, few, x.branch, m.branch.ok.0)

    -- What is told of a search is a report of it.
    reported : (r : Report) → Tells m t r → Reported om pm bs settings h h' q q' r
    reported r k =
        let s = x.came.end in
        let decisions : branch_of (vec_items r.branch) (vec_len r.branch) ≡ s.branch =
        ap (λ (n : ℕ). branch_of (vec_items r.branch) n) r.branch.ok.0
        ∙ (ap (λ (ws : List ℕ). branch_of ws (length ws)) k.branch ∙ (whole_branch (vec_items m.branch) (came_to t).branch_len branch_within ∙ ap (λ (z : State). z.branch) x.stands)) in
        let closed : vec_items r.closed ≡ recorded (nogoods s) =
        k.closed
        ∙ (ap (λ (ws : List ℕ). ws ++ recorded (reduced (branch_of (vec_items r.branch) (vec_len r.branch)))) used_words
        ∙ (ap (λ (ds : List Decision). recorded s.base ++ recorded (reduced ds)) decisions ∙ sym (recorded_join s.base (reduced s.branch)))) in
        let y = answered om pm bs settings h h' q q' m t x r.answer k.shaped k.verdict k.counts k.base in
        (y.0, closed ∙ ap (λ (z : State). recorded (nogoods z)) (sym y.1), decisions ∙ ap (λ (z : State). z.branch) (sym y.1))

    pub told_of : (r : Result Report PlanError) → IfOk r (Tells m t) → IsOkUnless r NoMemory → MatchResult r (Reported om pm bs settings h h' q q') (Unanswered bs settings)
    told_of (Ok r) k e = reported r k
    told_of (Err f) k e = subst (λ (y : PlanError). Unanswered bs settings y) (sym e) tt

  pub reports_as_due : (r : Result Report PlanError) → MatchResult r (Reported om pm bs settings h h' q q') (Unanswered bs settings) → RefusedAsDue bs settings r
  reports_as_due r x = as_due bs settings (Reported om pm bs settings h h' q q') r x (λ a y. ((y.0.job, y.0.accepts), y.0.within))

-- Memory that is wanting for the report alone is wanting after the search.
pub unreported : {O P H Q : Type 0} (om : OrderMeaning H) (pm : PolicyMeaning Q) (oh : O → H) (ph : P → Q) (bs : List ℕ) (settings : Settings) (o o' : O) (p p' : P) (m : Memory) (t : Sat) (r : Result Report PlanError)
    → Searched om pm bs settings (oh o) (oh o') (ph p) (ph p') m t → IsOkUnless r NoMemory → IfErr r (Unreported om pm oh ph bs settings o o' p p')
unreported om pm oh ph bs settings o o' p p' m t (Ok r) x e = tt
unreported om pm oh ph bs settings o o' p p' m t (Err f) x e = subst (λ (y : PlanError). Unreported om pm oh ph bs settings o o' p p' y) (sym e) (inr (m, t, x))
