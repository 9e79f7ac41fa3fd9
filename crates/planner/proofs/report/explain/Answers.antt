use Rattle.std.proofs.Common.{sym, subst}
use Rattle.planner.specs.declared.error.PlanError.{PlanError}
use Rattle.planner.specs.Answers.{Unanswered}
use Rattle.planner.proofs.Openings.{passed_on}
use Rattle.planner.proofs.Reports.{short_branch, told_of, reports_as_due, unreported}
use Rattle.planner.proofs.report.explain.Goals as goal

pub returns-in_err-memory-clause-reports : goal.returns-in_err-memory-clause-reports
returns-in_err-memory-clause-reports g c = passed_on c.from_residual.result _ _ _ c.from_residual.ensures.1
    (λ e x. subst (λ (y : PlanError). Unanswered c.args.job.now c.args.settings y) (sym x) c.in_err-memory.ensures.answers)

pub returns-in_err-memory-clause-refused : goal.returns-in_err-memory-clause-refused
returns-in_err-memory-clause-refused g c = reports_as_due _ _ _ _ _ _ _ _ _ (returns-in_err-memory-clause-reports g c)

pub told-requires-clause-few : goal.told-requires-clause-few
told-requires-clause-few g c = short_branch _ _ _ _ _ _ _ _ c.in_ok-memory.memory c.in_ok-memory.sat c.in_ok-memory.ensures.answers

pub returns-clause-reports : goal.returns-clause-reports
returns-clause-reports g c =
    told_of _ _ _ _ _ _ _ _ c.in_ok-memory.memory c.in_ok-memory.sat c.in_ok-memory.ensures.answers c.told.result c.told.ensures.report c.told.ensures.memory

pub returns-clause-refused : goal.returns-clause-refused
returns-clause-refused g c = reports_as_due _ _ _ _ _ _ _ _ _ (returns-clause-reports g c)

pub returns-clause-kept : goal.returns-clause-kept
returns-clause-kept g c = unreported _ _ g.O.Order.held g.P.RestartPolicy.held _ _ _ _ _ _ c.in_ok-memory.memory c.in_ok-memory.sat c.told.result c.in_ok-memory.ensures.answers c.told.ensures.memory
