use Rattle.rules.proofs.Entries.{table_books}
use Rattle.rules.proofs.laws.table_books_read_their_rows.Goals as goal

pub returns : goal.returns
returns c = table_books
