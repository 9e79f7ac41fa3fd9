use Rattle.std.proofs.Common.{◌+◌, take, drop, ap, ◌∙◌}
use Rattle.std.proofs.lemmas.List.{take_rest}
use Rattle.text.proofs.Building.{found, missing, no_byte}
use Rattle.text.proofs.read.cut_line.Goals as goal

pub returns-in-Some-clause-line : goal.returns-in-Some-clause-line
returns-in-Some-clause-line c = ap (λ n. take n c.args.text.now) (found _ _ _ c.in-Some.ensures).1

pub returns-in-Some-clause-rest : goal.returns-in-Some-clause-rest
returns-in-Some-clause-rest c =
    let f = found _ _ _ c.in-Some.ensures in
    (f.0, take_rest c.args.text.now (c.in-Some.n + 1) ∙ ap (λ n. drop (n + 1) c.args.text.now) f.1)

pub returns-in-None-clause-line : goal.returns-in-None-clause-line
returns-in-None-clause-line c = no_byte c.args.text.now (missing _ _ c.in-None.ensures)

pub returns-in-None-clause-rest : goal.returns-in-None-clause-rest
returns-in-None-clause-rest c = missing _ _ c.in-None.ensures
