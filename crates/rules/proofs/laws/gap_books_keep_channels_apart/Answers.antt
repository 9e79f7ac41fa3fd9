use Rattle.rules.proofs.Entries.{gap_books}
use Rattle.rules.proofs.laws.gap_books_keep_channels_apart.Goals as goal

pub returns : goal.returns
returns c = gap_books
