use Rattle.std.proofs.Common.{◌∙◌, arith}
use Rattle.propagation.proofs.Wiring.{chained_none, chained_wired}
use Rattle.propagation.proofs.wires.wire.Goals as goal

pub loop-i-init : goal.loop-i-init
loop-i-init g c =
    chained_none (g.B.RuleBook.meaning c.args.book.now) c.args.wires.now c.requires.blank

pub returns : goal.returns
returns g c =
    chained_wired (g.B.RuleBook.meaning c.args.book.now) (g.B.RuleBook.lawful c.args.book.now) _ c.loop-i.wires
    (c.loop-i.auto.wires ∙ c.requires.size) c.requires.groups c.requires.rules (omega arith) c.loop-i.invariant
