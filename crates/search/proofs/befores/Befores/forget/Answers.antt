use Rattle.std.proofs.Common.{arith}
use Rattle.search.proofs.befores.Befores.forget.Goals as goal

pub returns-clause-fewer : goal.returns-clause-fewer
returns-clause-fewer c = λ g q l h. (c.loop-g.invariant.sound g q h, c.loop-g.invariant.fewer g q (omega (arith, l, c.loop-g-test.false)) h)
