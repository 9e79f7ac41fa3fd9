use Rattle.std.proofs.Common.{length, ap, ◌∙◌}
use Rattle.planner.proofs.Goings.{lent_back, lent_same}
use Rattle.planner.proofs.memory.Memory.sit.Goals as goal

pub returns-clause-answers : goal.returns-clause-answers
returns-clause-answers g c =
    let memory = c.args.self.now in
    let new = c.sit_in.new in
    let found = lent_same c.args.order.now c.args.policy.now _ _ _ _ _ _ _ _ _ _ _ _ _ _ c.deref_mut.ensures.value c.deref_mut-5.ensures.value c.deref_mut-2.ensures.value
    c.deref_mut-3.ensures.value c.deref_mut-4.ensures.value c.deref_mut-6.ensures.value c.deref_mut-7.ensures.value in
    let left = lent_same new.order new.policy _ _ _ _ _ _ _ _ _ _ _ _ _ _
    (lent_back memory.domains new.domains (c.sit_in.auto.domains ∙ ap length c.deref_mut.ensures.value))
    (lent_back memory.branch new.branch (c.sit_in.auto.branch ∙ ap length c.deref_mut-5.ensures.value))
    (lent_back memory.marks new.marks (c.sit_in.auto.marks ∙ ap length c.deref_mut-2.ensures.value))
    (lent_back memory.ends new.ends (c.sit_in.auto.ends ∙ ap length c.deref_mut-3.ensures.value))
    (lent_back memory.settled new.settled (c.sit_in.auto.settled ∙ ap length c.deref_mut-4.ensures.value))
    (lent_back memory.plan new.plan (c.sit_in.auto.plan ∙ ap length c.deref_mut-6.ensures.value))
    (lent_back memory.base new.base (c.sit_in.auto.base ∙ ap length c.deref_mut-7.ensures.value)) in
    rw (found, left) at c.sit_in.ensures
