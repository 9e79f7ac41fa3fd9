use Rattle.std.proofs.Common.{Bool, ap, ◌∙◌, subst}
use Rattle.laws.specs.Words.{branch?}
use Rattle.laws.specs.Requests.{unless}
use Rattle.search.specs.Calls.{Vets}
use Rattle.search.proofs.Fronts.{whole_branch}
use Rattle.search.proofs.vetting.vet_branch.Goals as goal

pub returns : goal.returns
returns c =
    subst (λ (b : Bool). Vets c.refuse_unless.result (unless b 13)) (c.branch_sound.ensures ∙ ap (branch? c.args.lists.now) (whole_branch c.args.branch.now c.args.search.now.at.branch_len c.requires.within)) c.refuse_unless.ensures.vets
