use Rattle.planner.proofs.Openings.{program_within, as_loaded, begins_with, by_program}
use Rattle.planner.proofs.solve.plan.Goals as goal

pub returns-clause-short : goal.returns-clause-short
returns-clause-short c = λ _.
    let o = c.new-order.ensures in
    by_program c.args.job.now _ _ _ _ c.solve.result (begins_with _ _ _ o.0 o.1 o.2) c.new-policy.ensures c.solve.ensures.answers

pub returns-clause-refused : goal.returns-clause-refused
returns-clause-refused c = λ _. as_loaded _ _ _ program_within c.solve.ensures.refused
