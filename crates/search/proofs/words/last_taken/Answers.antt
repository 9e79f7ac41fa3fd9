use Rattle.std.proofs.Common.{rules}
use Rattle.search.proofs.Marks.{none_taken}
use Rattle.search.proofs.words.last_taken.Goals as goal

pub returns : goal.returns
returns c = search (rules, none_taken)
