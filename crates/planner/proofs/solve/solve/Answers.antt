use Rattle.std.proofs.Common.{sym, subst}
use Rattle.planner.specs.declared.error.PlanError.{PlanError}
use Rattle.planner.specs.Answers.{Unanswered}
use Rattle.planner.proofs.Openings.{answered, answers_as_due, passed_on}
use Rattle.planner.proofs.solve.solve.Goals as goal

pub returns-in_err-memory-clause-answers : goal.returns-in_err-memory-clause-answers
returns-in_err-memory-clause-answers g c = passed_on c.from_residual.result _ _ _ c.from_residual.ensures.1
    (λ e x. subst (λ (y : PlanError). Unanswered c.args.job.now c.args.settings y) (sym x) c.in_err-memory.ensures.answers)

pub returns-in_err-memory-clause-refused : goal.returns-in_err-memory-clause-refused
returns-in_err-memory-clause-refused g c = answers_as_due _ _ _ _ _ _ _ _ _ (returns-in_err-memory-clause-answers g c)

pub returns-clause-answers : goal.returns-clause-answers
returns-clause-answers g c =
    let a = c.answer.ensures in
    (answered _ _ _ _ _ _ _ _ c.in_ok-memory.memory c.in_ok-memory.sat c.in_ok-memory.ensures.answers c.answer.result a.verdict a.told a.counts a.base).0

pub returns-clause-refused : goal.returns-clause-refused
returns-clause-refused g c = answers_as_due _ _ _ _ _ _ _ _ _ (returns-clause-answers g c)
