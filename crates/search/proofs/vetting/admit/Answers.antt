use Rattle.std.proofs.Common.{◌≡◌, ◌∷◌, set, ap, ◌∙◌, subst, rules, arith}
use Rattle.model.specs.declared.decision.Decision.{Decision as Spoken}
use Rattle.model.specs.Masks.{grp}
use Rattle.model.specs.Decisions.{word}
use Rattle.model.specs.Said.{said}
use Rattle.search.specs.Calls.{FreeFor}
use Rattle.search.proofs.Vets.{admitted}
use Rattle.search.proofs.vetting.admit.Goals as goal
use Rattle.search.proofs.vetting.admit.Goals.{in-Taken, in-Taken-2}

pub returns-clause-after : goal.returns-clause-after
returns-clause-after c =
    let free = c.args.free.now in
    let d = c.match-decision.decision in
    let same : d ≡ c.args.decision = elim c.match-decision.branch [ in-Taken w ↦ search rules | in-Taken-2 w ↦ search rules ] in
    let of : c.group_of-group.result ≡ grp (word (said d)) = c.group_of-group.ensures ∙ ap grp (elim c.match-decision.branch [ in-Taken w ↦ search rules | in-Taken-2 w ↦ search rules ]) in
    λ _ lists ds _ f. subst (λ (e : Spoken). FreeFor lists (set free c.group_of-group.result c.stays_free.result) (said e ∷ ds)) same
    (admitted lists free ds (said d) c.group_of-group.result c.stays_free.result of (omega arith) c.stays_free.ensures f)
