use Rattle.programs.proofs.Writings.{Written}
use Rattle.programs.proofs.output.write.Given as goal

abbrev pub invariant-loop : goal.invariant-loop
invariant-loop g l = Written l.fn.text (g.W.Write.contents l.fn.output) (g.W.Write.contents l.output) l.left
