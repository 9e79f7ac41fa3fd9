use Rattle.programs.proofs.OneReport.{report_once}
use Rattle.programs.proofs.decided.bytes_and_options_decide_a_report.Goals as goal

pub returns : goal.returns
returns c = report_once
