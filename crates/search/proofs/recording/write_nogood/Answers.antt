use Rattle.std.proofs.Common.{◌-◌, [], ◌∷◌, ◌++◌, length, take, drop, sym, ap, ◌∙◌, arith, length-append}
use Rattle.model.specs.Decisions.{takens}
use Rattle.model.specs.Words.{branch_of}
use Rattle.search.proofs.Marks.{takens_few}
use Rattle.search.proofs.Cuts.{nogood_written}
use Rattle.search.proofs.recording.write_nogood.Goals as goal

pub overflow_cast-rest : goal.overflow_cast-rest
overflow_cast-rest c = let f = takens_few c.args.branch.now (length c.args.branch.now) in omega (arith, c.copy_taken-n.ensures.count)

pub overflow_add-rest-2 : goal.overflow_add-rest-2
overflow_add-rest-2 c = let f = takens_few c.args.branch.now (length c.args.branch.now) in omega (arith, c.copy_taken-n.ensures.count)

pub returns-clause-wrote : goal.returns-clause-wrote
returns-clause-wrote c =
    let rest = c.args.rest.now in
    let taken = takens (branch_of c.args.branch.now (length c.args.branch.now)) in
    let count = c.copy_taken-n.ensures.count in
    let long = length-append taken (c.args.refused ∷ []) in
    nogood_written rest c.copy_taken-n.new.rest taken c.args.refused c.copy_taken-n.result count (omega arith)
    (c.copy_taken-n.ensures.wrote ∙ ap (λ k. taken ++ drop k (take (length rest - 1) (drop 1 rest))) (sym count))
