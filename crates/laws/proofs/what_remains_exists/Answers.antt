use Rattle.laws.proofs.Filter.{remaining, remaining_leaves}
use Rattle.laws.proofs.what_remains_exists.Goals as goal

pub returns : goal.returns
returns c lists book lawful s = (remaining lists book s, remaining_leaves lists book lawful s)
