-- What the restart policies answer is lawful. Assumes nothing.
use Rattle.std.proofs.Common.{arith}
use Rattle.branching.specs.Policy.{LawfulPolicy, geometric, steady}

pub geometric_lawful : LawfulPolicy geometric
geometric_lawful = record { positive = λ h. omega arith }

pub steady_lawful : LawfulPolicy steady
steady_lawful = record { positive = λ h. omega arith }
