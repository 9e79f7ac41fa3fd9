-- What the planner answers to bytes, as the account of them.
use Rattle.std.proofs.Common.{◌≡◌, ℕ, ◌<◌, ◌≤◌, List, length, Some, Ok, Err, Result, MatchResult, refl, inl}
use Rattle.planner.specs.declared.answer.Answer.{Answer}
use Rattle.planner.specs.declared.error.PlanError.{PlanError}
use Rattle.planner.specs.declared.error.PlanError.TheVariants.{Refused, NoMemory}
use Rattle.rules.specs.declared.refusal.Refusal.TheVariants.{NoPlace}
use Rattle.planner.specs.Accounts.{answer_text}
use Rattle.planner.specs.Answers.{program, Unanswered, AnsweredByProgram}
use Rattle.planner.specs.Stores.{Unstored}
use Rattle.programs.specs.Printed.{IsLineOf, AccountOf, Accounts}
use Rattle.programs.proofs.Printing.{reply_printed}

replied : (bytes : List ℕ) (r : Result Answer PlanError) → MatchResult r (AnsweredByProgram bytes) (Unstored bytes) → MatchResult r (λ a. Accounts bytes (answer_text a)) (Unanswered bytes program)
replied bytes (Ok a) x = (a, x, refl)
replied bytes (Err (Refused e)) x = inl x
replied bytes (Err NoMemory) x = tt

pub account_printed : (bytes : List ℕ) (r : Result Answer PlanError) → (65536 < length bytes → r ≡ Err (Refused (NoPlace 65536))) → (length bytes ≤ 65536 → MatchResult r (AnsweredByProgram bytes) (Unstored bytes))
    → (t : List ℕ) → IsLineOf (λ a. Some (answer_text a)) r t → AccountOf bytes t
account_printed bytes r long short = reply_printed program Accounts answer_text bytes r long (λ h. replied bytes r (short h))
