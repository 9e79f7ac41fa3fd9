use Rattle.model.specs.Words.{base_of}
use Rattle.propagation.specs.Indexed.{Indexed}
use Rattle.propagation.proofs.index.Index.link_all.Given as goal

abbrev pub invariant-loop-p : goal.invariant-loop-p
invariant-loop-p l = Indexed (base_of l.base) l.p l.self
