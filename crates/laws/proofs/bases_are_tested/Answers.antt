use Rattle.laws.proofs.Words.{whole_recorded, is_base, base_is}
use Rattle.laws.proofs.bases_are_tested.Goals as goal

pub returns : goal.returns
returns c = (whole_recorded, is_base, base_is)
