use Rattle.std.proofs.Common.{length, refl, inl, inr, arith}
use Rattle.propagation.proofs.Lines.{Next, push_line, line_length}
use Rattle.propagation.proofs.ring.Ring.push.Goals as goal
use Rattle.propagation.proofs.ring.Ring.push.Goals.{then-self-room, else-self-room}

pub returns-then-self-n-clause-line : goal.returns-then-self-n-clause-line
returns-then-self-n-clause-line g c =
    let r = c.args.self.now in
    (refl, omega (arith, line_length r.places.now r.head r.len r.fits, c.if-self-n.true), refl)

pub returns-clause-line : goal.returns-clause-line
returns-clause-line g c =
    let r = c.args.self.now in
    let ps = r.places.now in
    let nx : Next (length ps) r.head r.len c.if-self-room.at =
    elim c.if-self-room.branch [ then-self-room w ↦ inl (w.if-self-room.true, w.at-is) | else-self-room w ↦ inr (w.if-self-room.false, w.at-is) ] in (
      omega (arith, line_length ps r.head r.len r.fits, r.fits, c.if-self-n.false),
      push_line ps r.head r.len c.if-self-room.at c.args.x (omega (arith, r.fits, c.if-self-n.false)) (omega (arith, r.inside)) nx,
    )
