use Rattle.std.proofs.Common.{◌+◌, length, inl, inr, arith}
use Rattle.propagation.proofs.Lines.{Round, pop_line}
use Rattle.propagation.proofs.ring.Ring.pop.Goals as goal
use Rattle.propagation.proofs.ring.Ring.pop.Goals.{then-next-self, else-next-self}

pub returns-clause-line : goal.returns-clause-line
returns-clause-line g c =
    let r = c.args.self.now in
    let ps = r.places.now in
    let st : Round (length ps) (r.head + 1) c.if-next-self.self =
    elim c.if-next-self.branch [ then-next-self w ↦ inl (w.if-next-self.true, w.self-is) | else-next-self w ↦ inr (w.if-next-self.false, w.self-is) ] in
    pop_line ps r.head c.if-next-self.self r.len c.index-self-self.result (omega (arith, c.if-self-eq0.false)) r.fits (omega (arith, c.if-self-eq0.false, r.inside, r.fits)) st
