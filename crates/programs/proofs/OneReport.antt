-- The options and the bytes decide a report.
use Rattle.std.proofs.Common.{◌≡◌, ℕ, zero, suc, ◌+◌, ◌<◌, ◌≤◌, List, [], ◌∷◌, ◌++◌, length, take, get_or, None, Ok, refl, sym, ap, ◌∙◌, subst, arith, vec_items, vec_len, append-nil}
use Rattle.std.specs.List.{flat_map}
use Rattle.std.proofs.lemmas.Grind.{flat_map-append}
use Rattle.std.proofs.lemmas.List.{take_more, take_all}
use Rattle.branching.specs.Order.{OrderMeaning}
use Rattle.branching.specs.Policy.{PolicyMeaning, geometric, steady, clamped}
use Rattle.branching.specs.Fewest.{fewest_first}
use Rattle.branching.specs.Layer.{last_conflict}
use Rattle.laws.specs.Sittings.{Verdict as Reached}
use Rattle.model.specs.Decisions.{Decision}
use Rattle.model.specs.Words.{decision, branch_of, recorded}
use Rattle.model.specs.Moves.{State, start, nogoods}
use Rattle.search.specs.declared.held.Counts.{Counts}
use Rattle.jobs.specs.Books.{book_of}
use Rattle.jobs.proofs.Decides.{first_is_one, end_stops}
use Rattle.jobs.specs.Jobs.{after, places, Sound, Accepts}
use Rattle.planner.specs.declared.report.Report.{Report}
use Rattle.planner.specs.declared.solve.Settings.{Settings}
use Rattle.planner.specs.Accounts.{answer_text, none_text, decided_text, report_text}
use Rattle.planner.specs.Answers.{refusal_of, Comes}
use Rattle.planner.specs.Reports.{Reported}
use Rattle.planner.specs.Sittings.{Between}
use Rattle.planner.proofs.Once.{one_end, one_answer}
use Rattle.programs.specs.declared.options.Options.{Options}
use Rattle.programs.specs.declared.options.GroupOrder.{GroupOrder}
use Rattle.programs.specs.declared.options.GroupOrder.TheVariants.{Fewest, Last}
use Rattle.programs.specs.declared.options.Restarts.{Restarts}
use Rattle.programs.specs.declared.options.Restarts.TheVariants.{Geometric, Steady}
use Rattle.programs.specs.Reported.{settings_of, ReportedFrom, ByPolicy, ByOrder, Reports, ReportOf}
use Rattle.programs.specs.Printed.{OneText}
use Rattle.programs.proofs.Once.{Sure, one_text, none_of, none_told, one_account}

-- how decisions are told, by what they are, the newest first
abbrev decisions_of : List Decision → List ℕ
decisions_of [] = []
decisions_of (d ∷ ds) = decisions_of ds ++ decided_text d

decisions_told : (ws : List ℕ) (n : ℕ) → n ≤ length ws → flat_map (λ w. decided_text (decision w)) (take n ws) ≡ decisions_of (branch_of ws n)
decisions_told ws zero h = refl
decisions_told ws (suc n) h =
    let w = get_or ws n 0 in
    let within : n < length ws = omega (arith, h) in
    let count : suc n ≡ n + 1 = omega arith in
    let last : take (suc n) ws ≡ take n ws ++ (w ∷ []) = ap (λ (k : ℕ). take k ws) count ∙ take_more ws n 0 within in
    let told : List ℕ = flat_map (λ v. decided_text (decision v)) (take n ws) in
    let before : told ≡ decisions_of (branch_of ws n) = decisions_told ws n (omega (arith, h)) in
    ap (λ (vs : List ℕ). flat_map (λ v. decided_text (decision v)) vs) last
    ∙ (flat_map-append (λ v. decided_text (decision v)) (take n ws) (w ∷ [])
    ∙ (ap (λ (ts : List ℕ). told ++ ts) (append-nil (decided_text (decision w))) ∙ ap (λ (ts : List ℕ). ts ++ decided_text (decision w)) before))

all_decisions_told : (ws : List ℕ) → flat_map (λ w. decided_text (decision w)) ws ≡ decisions_of (branch_of ws (length ws))
all_decisions_told ws =
    let all : take (length ws) ws ≡ ws = take_all (length ws) ws (omega arith) in
    sym (ap (λ (vs : List ℕ). flat_map (λ v. decided_text (decision v)) vs) all) ∙ decisions_told ws (length ws) (omega arith)

branch_told : (r : Report) (ds : List Decision) → branch_of (vec_items r.branch) (vec_len r.branch) ≡ ds → flat_map (λ w. decided_text (decision w)) (vec_items r.branch) ≡ decisions_of ds
branch_told r ds e =
    let whole : branch_of (vec_items r.branch) (length (vec_items r.branch)) ≡ ds = sym (ap (λ (n : ℕ). branch_of (vec_items r.branch) n) r.branch.ok.0) ∙ e in
    all_decisions_told (vec_items r.branch) ∙ ap decisions_of whole

module _ {H Q : Type 0} (om : OrderMeaning H) (pm : PolicyMeaning Q) (bs : List ℕ) (settings : Settings) (h h1 h2 : H) (q q1 q2 : Q) where
  same_end : (i j : ℕ) (v w : Reached) (c d : Counts) → i ≡ j → (x : Comes om pm (book_of bs (after bs i)) (after bs i).lists settings.base_words settings start h h1 q q1 v c) (y : Comes om pm (book_of bs (after bs j)) (after bs j).lists settings.base_words settings start h h2 q q2 w d)
      → x.end ≡ y.end
  same_end i j v w c d e x y =
      subst (λ (k : ℕ). (z : Comes om pm (book_of bs (after bs k)) (after bs k).lists settings.base_words settings start h h2 q q2 w d) → x.end ≡ z.end) e
      (λ z. ap (λ (b : Between H Q). b.state) (one_end om pm (after bs i).lists (book_of bs (after bs i)) settings.base_words settings.allowance settings.sittings _ _ _ _ _ x.ran z.ran).1) y

  module _ (r s : Report) (x : Reported om pm bs settings h h1 q q1 r) (y : Reported om pm bs settings h h2 q q2 s) where
    one_state : x.0.came.end ≡ y.0.came.end
    one_state =
        let e : x.0.job ≡ y.0.job = first_is_one (Sound bs places) x.0.job y.0.job x.0.accepts.before (end_stops bs places x.0.job x.0.accepts) y.0.accepts.before (end_stops bs places y.0.job y.0.accepts) in
        same_end x.0.job y.0.job _ _ _ _ e x.0.came y.0.came

    pub one_report : report_text r ≡ report_text s
    one_report =
        let same = one_answer om pm bs settings h h1 h2 q q1 q2 (Ok r.answer) (Ok s.answer) x.0 y.0 in
        let account : answer_text r.answer ≡ answer_text s.answer = one_account r.answer s.answer same in
        let sentence : none_text r.answer.verdict ≡ none_text s.answer.verdict = none_told r.answer.verdict ∙ ap none_of same.0 ∙ sym (none_told s.answer.verdict) in
        let closed : vec_items r.closed ≡ vec_items s.closed = x.1 ∙ ap (λ (z : State). recorded (nogoods z)) one_state ∙ sym y.1 in
        let branch : flat_map (λ w. decided_text (decision w)) (vec_items r.branch) ≡ flat_map (λ w. decided_text (decision w)) (vec_items s.branch) = branch_told r x.0.came.end.branch x.2 ∙ ap (λ (z : State). decisions_of z.branch) one_state ∙ sym (branch_told s y.0.came.end.branch y.2) in
        rw (account, sentence, closed, branch) refl

module _ (o : Options) (bytes : List ℕ) where
  -- what a report by the options tells
  report_loads : {H Q : Type 0} (om : OrderMeaning H) (pm : PolicyMeaning Q) (h : H) (q : Q) (r : Report) → ReportedFrom o bytes om pm h q r → ((i : ℕ) × Accepts bytes places i) × (refusal_of (settings_of o) ≡ None)
  report_loads om pm h q r x = ((x.2.0.job, x.2.0.accepts), x.2.0.within)

  by_policy_loads : {H : Type 0} (om : OrderMeaning H) (h : H) (p : Restarts) (r : Report) → ByPolicy o bytes om h p r → ((i : ℕ) × Accepts bytes places i) × (refusal_of (settings_of o) ≡ None)
  by_policy_loads om h Geometric r x = report_loads om geometric h 10 r x
  by_policy_loads om h (Steady c) r x = report_loads om steady h (clamped c) r x

  loads : (g : GroupOrder) (r : Report) → ByOrder o bytes g r → ((i : ℕ) × Accepts bytes places i) × (refusal_of (settings_of o) ≡ None)
  loads Fewest r x = by_policy_loads fewest_first tt o.restarts r x
  loads (Last k) r x = by_policy_loads (last_conflict fewest_first) _ o.restarts r x

  one_by_policy : {H : Type 0} (om : OrderMeaning H) (h : H) (p : Restarts) (r s : Report) → ByPolicy o bytes om h p r → ByPolicy o bytes om h p s → report_text r ≡ report_text s
  one_by_policy om h Geometric r s x y = one_report om geometric bytes (settings_of o) h x.0 y.0 10 x.1 y.1 r s x.2 y.2
  one_by_policy om h (Steady c) r s x y = one_report om steady bytes (settings_of o) h x.0 y.0 (clamped c) x.1 y.1 r s x.2 y.2

  one_by_order : (g : GroupOrder) (r s : Report) → ByOrder o bytes g r → ByOrder o bytes g s → report_text r ≡ report_text s
  one_by_order Fewest r s x y = one_by_policy fewest_first tt o.restarts r s x y
  one_by_order (Last k) r s x y = one_by_policy (last_conflict fewest_first) _ o.restarts r s x y

report_sure : (o : Options) → Sure (settings_of o) (Reports o)
report_sure o = record {
  accepted = λ bytes text x. (loads o bytes o.order x.0 x.1).0;
  within = λ bytes text x. (loads o bytes o.order x.0 x.1).1;
  once = λ bytes text other x y. x.2 ∙ (one_by_order o bytes o.order x.0 y.0 x.1 y.1 ∙ sym y.2);
}

pub report_once : (o : Options) → OneText (ReportOf o)
report_once o = one_text (settings_of o) (Reports o) (report_sure o)
