-- What is reported by the order and the policy that were chosen, as what is printed of it.
use Rattle.std.proofs.Common.{◌≡◌, ℕ, ◌<◌, ◌≤◌, List, length, Some, Ok, Err, Result, MatchResult, refl, subst}
use Rattle.branching.specs.Order.{OrderMeaning}
use Rattle.branching.specs.Policy.{PolicyMeaning}
use Rattle.rules.specs.declared.refusal.Refusal.TheVariants.{NoPlace}
use Rattle.planner.specs.declared.error.PlanError.{PlanError}
use Rattle.planner.specs.declared.error.PlanError.TheVariants.{Refused}
use Rattle.planner.specs.declared.report.Report.{Report}
use Rattle.planner.specs.declared.solve.Settings.{Settings}
use Rattle.planner.specs.Accounts.{report_text}
use Rattle.planner.specs.Answers.{Unanswered}
use Rattle.planner.specs.Reports.{Reported}
use Rattle.programs.specs.declared.options.Options.{Options}
use Rattle.programs.specs.Printed.{IsLineOf}
use Rattle.programs.specs.Reported.{settings_of, ReportedFrom, ByOrder, Reports, ReportOf}
use Rattle.programs.proofs.Printing.{reply_printed}

-- A report by the settings of the options is one of these options.
pub reported_from : {H Q : Type 0} (om : OrderMeaning H) (pm : PolicyMeaning Q) (job : List ℕ) (o : Options) (s : Settings) (h h' : H) (q q' p : Q) (r : Result Report PlanError)
    → s ≡ settings_of o → q ≡ p → MatchResult r (Reported om pm job s h h' q q') (Unanswered job s) → MatchResult r (ReportedFrom o job om pm h p) (Unanswered job (settings_of o))
reported_from om pm job o s h h' q q' p (Ok r) e f x = (h', q', subst (λ z. Reported om pm job z h h' p q' r) e (subst (λ z. Reported om pm job s h h' z q' r) f x))
reported_from om pm job o s h h' q q' p (Err x) e f y = subst (λ z. Unanswered job z x) e y

replied : (o : Options) (bytes : List ℕ) (r : Result Report PlanError) → MatchResult r (ByOrder o bytes o.order) (Unanswered bytes (settings_of o)) → MatchResult r (λ a. Reports o bytes (report_text a)) (Unanswered bytes (settings_of o))
replied o bytes (Ok a) x = (a, x, refl)
replied o bytes (Err e) x = x

pub report_printed : (o : Options) (bytes : List ℕ) (r : Result Report PlanError) → (65536 < length bytes → r ≡ Err (Refused (NoPlace 65536))) → (length bytes ≤ 65536 → MatchResult r (ByOrder o bytes o.order) (Unanswered bytes (settings_of o)))
    → (t : List ℕ) → IsLineOf (λ a. Some (report_text a)) r t → ReportOf o bytes t
report_printed o bytes r long short = reply_printed (settings_of o) (Reports o) report_text bytes r long (λ h. replied o bytes r (short h))
