-- What the alternating policy answers is lawful. Assumes nothing.
use Rattle.std.proofs.Common.{arith}
use Rattle.branching.specs.Policy.{LawfulPolicy}
use Rattle.trials.specs.Alternating.{alternating}

pub alternating_lawful : LawfulPolicy alternating
alternating_lawful = record { positive = λ h. omega arith }
