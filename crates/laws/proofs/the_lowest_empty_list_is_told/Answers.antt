use Rattle.laws.proofs.Refusals.{lowest_empty, empty_none}
use Rattle.laws.proofs.the_lowest_empty_list_is_told.Goals as goal

pub returns : goal.returns
returns c lists = (lowest_empty lists, empty_none 0 lists)
