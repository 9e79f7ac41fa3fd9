use Rattle.std.proofs.Common.{◌∙◌}
use Rattle.model.specs.Remains.{family}
use Rattle.propagation.proofs.Heeding.{forced_then, forced_first}
use Rattle.propagation.proofs.nogood.forced.Goals as goal

pub returns-in-None : goal.returns-in-None
returns-in-None c = rw (c.copied.ensures ∙ c.first.ensures.value) (forced_first (family c.args.domains.now) c.args.nogood.now c.in-None.ensures)

pub returns-in-Some : goal.returns-in-Some
returns-in-Some c =
    let t = c.in-Some.ensures in
    rw c.then_some.ensures (forced_then (family c.args.domains.now) c.args.nogood.now c.in-Some.w t.0 t.1 t.2 t.3 c.others_settled.result c.others_settled.ensures)
