use Rattle.std.proofs.Common.{length, ap, rules}
use Rattle.model.proofs.Bases.{begins}
use Rattle.model.proofs.base.NogoodsIterator.next.Goals as goal

pub returns-clause-steps : goal.returns-clause-steps
returns-clause-steps c = begins c.args.self.now.0.now c.in_ok-count.words.now c.split_at.result.0.now c.split_at.result.1.now c.in_ok-count.count.now c.min.result c.in_ok-count.ensures.cases.0 c.min.ensures c.split_at.ensures.front c.split_at.ensures.back

pub returns-clause-goes : goal.returns-clause-goes
returns-clause-goes c =
    let first = begins c.args.self.now.0.now c.in_ok-count.words.now c.split_at.result.0.now c.split_at.result.1.now c.in_ok-count.count.now c.min.result c.in_ok-count.ensures.cases.0 c.min.ensures c.split_at.ensures.front c.split_at.ensures.back in
    let shorter = ap length first.nogoods in search rules
