use Rattle.jobs.proofs.Binds.{book_binds}
use Rattle.jobs.proofs.laws.loaded_rules_bind.Goals as goal

pub returns : goal.returns
returns c = book_binds
