use Rattle.std.proofs.Common.{sym}
use Rattle.propagation.proofs.Lines.{line_length}
use Rattle.propagation.proofs.ring.Ring.len.Goals as goal

pub returns : goal.returns
returns g c =
    let r = c.args.self.now in
    sym (line_length r.places.now r.head r.len r.fits)
