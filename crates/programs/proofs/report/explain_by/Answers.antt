use Rattle.programs.proofs.Reports.{reported_from}
use Rattle.programs.proofs.report.explain_by.Goals as goal

pub returns-in-Geometric : goal.returns-in-Geometric
returns-in-Geometric g c = rw c.in-Geometric.is (reported_from _ _ _ c.args.options _ _ _ _ _ _ c.explain.result c.settings.ensures c.new.ensures c.explain.ensures.reports)

pub returns-in-Steady : goal.returns-in-Steady
returns-in-Steady g c = rw c.in-Steady.is (reported_from _ _ _ c.args.options _ _ _ _ _ _ c.explain-in-Steady.result c.settings-in-Steady.ensures c.new-in-Steady.ensures c.explain-in-Steady.ensures.reports)
