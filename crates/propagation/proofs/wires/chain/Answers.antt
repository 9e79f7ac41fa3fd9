use Rattle.std.proofs.Common.{rules}
use Rattle.propagation.proofs.Wiring.{chained_more}
use Rattle.propagation.proofs.wires.chain.Goals as goal

pub returns : goal.returns
returns g c =
    let more = chained_more (g.B.RuleBook.meaning c.args.book.now) c.args.e c.args.g c.args.wires.now c.requires.size c.requires.group c.requires.end c.requires.faces c.requires.before in
    search (rules, more)
