-- The bytes decide what is printed of them.
use Rattle.std.proofs.Common.{◌≡◌, ℕ, List, [], None, Ok, refl, sym, ap, ◌∙◌, arith, codes}
use Rattle.branching.specs.Policy.{geometric}
use Rattle.branching.specs.Fewest.{fewest_first}
use Rattle.branching.specs.Layer.{last_conflict}
use Rattle.laws.specs.Sittings.{Verdict as Reached, plan, none, unsettled}
use Rattle.jobs.specs.Jobs.{places, Accepts}
use Rattle.planner.specs.declared.answer.Answer.{Answer}
use Rattle.planner.specs.declared.answer.Verdict.{Verdict}
use Rattle.planner.specs.declared.answer.Verdict.TheVariants.{Plan, None as NonePlan, Open}
use Rattle.planner.specs.declared.solve.Settings.{Settings}
use Rattle.planner.specs.Accounts.{plan_text, verdict_text, answer_text, none_text}
use Rattle.planner.specs.Answers.{refusal_of, told_by, program, program_order, SaySame}
use Rattle.planner.proofs.Accepting.{none≢some}
use Rattle.planner.proofs.Once.{one_answer}
use Rattle.planner.proofs.Openings.{one_some, apart, one_fault}
use Rattle.programs.specs.Printed.{refused_line, line, Printed, too_long, faulty, past_limits, answered, Accounts, AccountOf, OneText}

-- What is told of bytes is told of a job that is loaded, and by settings that are due no refusal; and it is one text.
pub record Sure (settings : Settings) (Says : List ℕ → List ℕ → Type 0) : Type 0 where
  pub accepted : (bytes text : List ℕ) → Says bytes text → (i : ℕ) × Accepts bytes places i
  pub within : (bytes text : List ℕ) → Says bytes text → refusal_of settings ≡ None
  pub once : OneText Says

module _ (settings : Settings) (Says : List ℕ → List ℕ → Type 0) (k : Sure settings Says) where
  one_line : (p q : ℕ × ℕ) → p ≡ q → refused_line p.0 p.1 ≡ refused_line q.0 q.1
  one_line p q e = ap (λ (z : ℕ × ℕ). refused_line z.0 z.1) e

  pub one_text : OneText (Printed settings Says)
  one_text bytes text other (too_long l) (too_long m) = refl
  one_text bytes text other (too_long l) (faulty m f) = absurd (omega (arith, l, m))
  one_text bytes text other (too_long l) (past_limits m i a e) = absurd (omega (arith, l, m))
  one_text bytes text other (too_long l) (answered m s) = absurd (omega (arith, l, m))
  one_text bytes text other (faulty l f) (too_long m) = absurd (omega (arith, l, m))
  one_text bytes text other (faulty l {f} x) (faulty m {f = g} y) = one_line _ _ (one_fault bytes places f g x.0 y.0 x.1 y.1)
  one_text bytes text other (faulty l {f} x) (past_limits m i a e) = absurd (apart bytes places i a f x.0 x.1)
  one_text bytes text other (faulty l {f} x) (answered m s) = let a = k.accepted _ _ s in absurd (apart bytes places a.0 a.1 f x.0 x.1)
  one_text bytes text other (past_limits l i a e) (too_long m) = absurd (omega (arith, l, m))
  one_text bytes text other (past_limits l i a e) (faulty m {f} x) = absurd (apart bytes places i a f x.0 x.1)
  one_text bytes text other (past_limits l i a e) (past_limits m j b d) = one_line _ _ (one_some _ _ (sym e ∙ d))
  one_text bytes text other (past_limits l i a e) (answered m s) = absurd (none≢some _ _ (k.within _ _ s) e)
  one_text bytes text other (answered l s) (too_long m) = absurd (omega (arith, l, m))
  one_text bytes text other (answered l s) (faulty m {f} x) = let a = k.accepted _ _ s in absurd (apart bytes places a.0 a.1 f x.0 x.1)
  one_text bytes text other (answered l s) (past_limits m i a e) = absurd (none≢some _ _ (k.within _ _ s) e)
  one_text bytes text other (answered l s) (answered m r) = ap line (k.once bytes _ _ s r)

-- how a verdict is told, by what it says
abbrev verdict_of : Reached → List ℕ
verdict_of (plan bytes) = plan_text 0 bytes
verdict_of none = codes "none\n"
verdict_of unsettled = codes "open\n"

verdict_told : (v : Verdict) → verdict_text v ≡ verdict_of (told_by v)
verdict_told (Plan v) = refl
verdict_told NonePlan = refl
verdict_told Open = refl

abbrev pub none_of : Reached → List ℕ
none_of (plan bytes) = []
none_of none = none_text NonePlan
none_of unsettled = []

pub none_told : (v : Verdict) → none_text v ≡ none_of (told_by v)
none_told (Plan v) = refl
none_told NonePlan = refl
none_told Open = refl

pub one_account : (a b : Answer) → SaySame (Ok a) (Ok b) → answer_text a ≡ answer_text b
one_account a b s =
    let verdict : verdict_text a.verdict ≡ verdict_text b.verdict = verdict_told a.verdict ∙ ap verdict_of s.0 ∙ sym (verdict_told b.verdict) in
    rw (verdict, s.1) refl

account_sure : Sure program Accounts
account_sure = record {
  accepted = λ bytes text x. (x.1.2.job, x.1.2.accepts);
  within = λ bytes text x. x.1.2.within;
  once = λ bytes text other x y. x.2 ∙ (one_account x.0 y.0 (one_answer (last_conflict fewest_first) geometric bytes program program_order x.1.0 y.1.0 10 x.1.1 y.1.1 (Ok x.0) (Ok y.0) x.1.2 y.1.2) ∙ sym y.2);
}

pub account_once : OneText AccountOf
account_once = one_text program Accounts account_sure
