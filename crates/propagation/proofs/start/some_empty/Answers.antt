use Rattle.std.proofs.Common.{get_or, length, false, eqb, ◌≡◌, arith}
use Rattle.std.specs.List.{AllWithin}
use Rattle.std.proofs.lemmas.Bool.{both_ways, eq-eqb}
use Rattle.rules.proofs.Digits.{has_some}
use Rattle.propagation.proofs.start.some_empty.Goals as goal

pub returns-clause-alive : goal.returns-clause-alive
returns-clause-alive c = λ e g l.
    let ds = c.args.domains.now in
    let none : AllWithin (λ y. eqb y 0 ≡ false) ds 0 (length ds) = rw e at c.contains.ensures.cases in
    has_some (get_or ds g 0) (omega (arith, c.type_inv.domains g)) (λ z. both_ways (eqb (get_or ds g 0) 0) (none g 0 (omega arith) l) (eq-eqb (get_or ds g 0) 0 z))
