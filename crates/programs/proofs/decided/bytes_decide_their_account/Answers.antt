use Rattle.programs.proofs.Once.{account_once}
use Rattle.programs.proofs.decided.bytes_decide_their_account.Goals as goal

pub returns : goal.returns
returns c = account_once
