use Rattle.laws.proofs.Sittings.{open_spends}
use Rattle.laws.proofs.an_open_sitting_spends_its_allowance.Goals as goal

pub returns : goal.returns
returns c = open_spends
