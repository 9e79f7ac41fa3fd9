use Rattle.rules.proofs.Entries.{joined_books}
use Rattle.rules.proofs.laws.joined_books_keep_both.Goals as goal

pub returns : goal.returns
returns c = joined_books
