use Rattle.std.proofs.Common.{◌+◌, ◌≤◌, length, sym, subst, rules}
use Rattle.model.specs.Decisions.{reduced}
use Rattle.model.specs.Words.{recorded}
use Rattle.search.proofs.Fronts.{whole_branch}
use Rattle.search.proofs.moves.restart.Goals as goal

pub record_nogoods-used-requires-clause-room : goal.record_nogoods-used-requires-clause-room
record_nogoods-used-requires-clause-room g c =
    let p = c.args.at.now in
    subst (λ ds. p.base_used + length (recorded (reduced ds)) ≤ length c.args.base.now) (sym (whole_branch c.args.branch.now p.branch_len c.requires.within)) c.requires.room

pub returns-clause-numbers : goal.returns-clause-numbers
returns-clause-numbers g c = rw (sym (whole_branch c.args.branch.now c.args.at.now.branch_len c.requires.within)) (search rules)

pub returns-clause-words : goal.returns-clause-words
returns-clause-words g c = rw (sym (whole_branch c.args.branch.now c.args.at.now.branch_len c.requires.within)) (search rules)
