use Rattle.std.proofs.Common.{rules, ◌≡◌, ◌∷◌, ◌++◌, [], sym, ap, ◌∙◌, append_assoc}
use Rattle.std.proofs.Output.{has_written_append, has_written_of_eq}
use Rattle.std.proofs.lemmas.List.{flat_map_more}
use Rattle.model.specs.Words.{base_of}
use Rattle.planner.specs.Accounts.{closed_text}
use Rattle.planner.proofs.report.ClosedDisplay.fmt.Goals as goal

pub loop-count-preserved : goal.loop-count-preserved
loop-count-preserved g c =
    let i = c.loop-count.invariant in
    let done = i.2.0 in
    let step = c.in-Some.ensures.steps in
    let split : base_of c.args.self.now.0.now ≡ (done ++ (c.in-Some.nogood.now ∷ [])) ++ base_of c.next.new.self.0.now =
    i.2.1 ∙ ap (λ ns. done ++ ns) step.nogoods ∙ sym (append_assoc done (c.in-Some.nogood.now ∷ []) (base_of c.next.new.self.0.now)) in
    (tt, tt, (done ++ (c.in-Some.nogood.now ∷ []), split, λ p. has_written_of_eq _ _ _ _ _ (flat_map_more (λ n. closed_text n) [] done c.in-Some.nogood.now) (has_written_append _ _ _ _ _ _ (i.2.2 p) (search rules))))
