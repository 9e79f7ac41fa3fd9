use Rattle.std.proofs.Common.{rules}
use Rattle.search.proofs.Vets.{empty_first, empty_never}
use Rattle.search.proofs.vetting.vet_lists.Goals as goal

pub returns-in-Some : goal.returns-in-Some
returns-in-Some c = search (rules, empty_first 0)

pub returns-in-None : goal.returns-in-None
returns-in-None c = search (rules, empty_never 0)
