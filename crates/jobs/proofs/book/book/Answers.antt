use Rattle.jobs.proofs.Binds.{loaded_book}
use Rattle.jobs.proofs.book.book.Goals as goal

pub returns-clause-loaded : goal.returns-clause-loaded
returns-clause-loaded c = loaded_book
