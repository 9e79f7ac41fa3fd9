use Rattle.std.proofs.Common.{length, slice_index}
use Rattle.branching.specs.FewestLemmas.{fewest_of_is, lowest_is}
use Rattle.branching.proofs.laws.fewest_first_takes_the_fewest.Goals as goal

pub returns : goal.returns
returns c = record { group = λ ms. fewest_of_is ms (length ms); channel = λ ms g. lowest_is (slice_index ms g) }
