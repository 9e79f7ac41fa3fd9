use Rattle.programs.specs.Reported.{settings_of, Reports, ReportOf}
use Rattle.programs.proofs.Printing.{unwritten, written, cut}
use Rattle.programs.proofs.Reports.{report_printed}
use Rattle.programs.proofs.report.report.Goals as goal

pub returns-in_err-job : goal.returns-in_err-job
returns-in_err-job g c = unwritten (ReportOf c.args.options) _ _ _ c.from_residual.ensures.0

pub returns-in_err-report : goal.returns-in_err-report
returns-in_err-report g c = unwritten (ReportOf c.args.options) _ _ _ c.from_residual-in_err-report.ensures.0

pub returns : goal.returns
returns g c = written (ReportOf c.args.options) _ _ _ _ _ _ _ _ c.in_ok-job.ensures c.as_slice.ensures.value c.as_bytes.ensures.value (λ bytes. cut (settings_of c.args.options) (Reports c.args.options) bytes _)
    (report_printed c.args.options _ _ c.explain_as_told.ensures.long c.explain_as_told.ensures.short _ c.in_ok-report.ensures.text) c.write.ensures.written c.write.ensures.failed
