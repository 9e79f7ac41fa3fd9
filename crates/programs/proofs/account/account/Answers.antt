use Rattle.planner.specs.Answers.{program}
use Rattle.programs.specs.Printed.{Accounts, AccountOf}
use Rattle.programs.proofs.Printing.{unwritten, written, cut}
use Rattle.programs.proofs.Accounts.{account_printed}
use Rattle.programs.proofs.account.account.Goals as goal

pub returns-in_err-job : goal.returns-in_err-job
returns-in_err-job g c = unwritten AccountOf _ _ _ c.from_residual.ensures.0

pub returns-in_err-account : goal.returns-in_err-account
returns-in_err-account g c = unwritten AccountOf _ _ _ c.from_residual-in_err-account.ensures.0

pub returns : goal.returns
returns g c = written AccountOf _ _ _ _ _ _ _ _ c.in_ok-job.ensures c.as_slice.ensures.value c.as_bytes.ensures.value (λ bytes. cut program Accounts bytes _)
    (account_printed _ _ c.plan.ensures.long c.plan.ensures.short _ c.in_ok-account.ensures.text) c.write.ensures.written c.write.ensures.failed
