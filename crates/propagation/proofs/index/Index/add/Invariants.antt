use Rattle.std.proofs.Common.{◌≡◌, ℕ, ◌-◌, List, ◌++◌, length}
use Rattle.model.specs.Words.{recorded, base_of}
use Rattle.propagation.specs.Indexed.{Indexed}
use Rattle.propagation.proofs.index.Index.add.Given as goal

abbrev pub invariant-loop-s : goal.invariant-loop-s
invariant-loop-s l = record {
  parts : (done rest : List (List ℕ)) × (base_of l.base ≡ done ++ rest) × (l.s ≡ length (recorded done));
  indexed : Indexed (base_of l.base) l.s l.self;
}

abbrev pub decreases-loop-s : goal.decreases-loop-s
decreases-loop-s l = length l.base - l.s
