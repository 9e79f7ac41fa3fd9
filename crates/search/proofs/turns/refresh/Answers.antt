use Rattle.std.proofs.Common.{◌≡◌, ◌-◌, ◌<◌, ◌≤◌, length, take, OnErr, sym, ap, ◌∙◌, subst, rules, arith}
use Rattle.model.specs.Masks.{grp}
use Rattle.model.specs.Decisions.{word}
use Rattle.model.specs.Words.{decision, branch_of, base_of}
use Rattle.propagation.specs.Filtered.{Lives, Dies}
use Rattle.search.proofs.Fronts.{front_length, front_word, front_branch, whole_branch, listed_word, all_grouped}
use Rattle.search.proofs.turns.refresh.Goals as goal

pub propagate_decision-requires-clause-before : goal.propagate_decision-requires-clause-before
propagate_decision-requires-clause-before g c =
    let lists = c.args.lists.now in
    let ws = c.args.branch.now in
    let p = c.args.at.now in
    let n = p.branch_len in
    let f = c.requires.fit in
    let fresh = c.requires.fresh c.if-ready.true in
    let some = fresh.some in
    let inside : n ≤ length ws = omega (arith, f.branch_in, f.branch_room) in
    let before : branch_of (take n ws) (length (take n ws) - 1) ≡ branch_of ws (n - 1) = ap (λ k. branch_of (take n ws) (k - 1)) (front_length ws n inside) ∙ front_branch ws n inside (n - 1) (omega arith) in
    subst (λ ds. Lives lists (g.B.RuleBook.meaning c.args.book.now) (base_of (take p.base_used c.args.base.now)) ds (take (length lists) c.args.domains.now)) (sym before) fresh.before

pub propagate-requires-clause-decided : goal.propagate-requires-clause-decided
propagate-requires-clause-decided g c i h =
    let lists = c.args.lists.now in
    let ws = c.args.branch.now in
    let n = c.args.at.now.branch_len in
    let f = c.requires.fit in
    let inside : n ≤ length ws = omega (arith, f.branch_in, f.branch_room) in
    let long = front_length ws n inside in
    let k : i < n = omega arith in
    subst (λ w. grp (word (decision w)) < length lists) (sym (front_word ws n inside i k)) (listed_word lists ws n f.sound i k).group

pub propagate-requires-clause-grouped : goal.propagate-requires-clause-grouped
propagate-requires-clause-grouped g c = all_grouped c.args.lists.now _ c.requires.fit.nogoods

-- The answers speak of the first words of the branch as a slice, which stand for the same branch.
pub returns-then-ready-clause-dead : goal.returns-then-ready-clause-dead
returns-then-ready-clause-dead g c =
    let p = c.args.at.now in
    let f = c.requires.fit in
    subst (λ ds. OnErr c.propagate_decision.result (Dies c.args.lists.now (g.B.RuleBook.meaning c.args.book.now) (base_of (take p.base_used c.args.base.now)) ds))
    (whole_branch c.args.branch.now p.branch_len (omega (arith, f.branch_in, f.branch_room))) c.propagate_decision.ensures.dead

pub returns-else-ready-clause-dead : goal.returns-else-ready-clause-dead
returns-else-ready-clause-dead g c =
    let p = c.args.at.now in
    let f = c.requires.fit in
    subst (λ ds. OnErr c.propagate.result (Dies c.args.lists.now (g.B.RuleBook.meaning c.args.book.now) (base_of (take p.base_used c.args.base.now)) ds))
    (whole_branch c.args.branch.now p.branch_len (omega (arith, f.branch_in, f.branch_room))) c.propagate.ensures.dead

pub returns-then-ready-clause-lives : goal.returns-then-ready-clause-lives
returns-then-ready-clause-lives g c =
    let f = c.requires.fit in
    rw (sym (whole_branch c.args.branch.now c.args.at.now.branch_len (omega (arith, f.branch_in, f.branch_room)))) (search rules)

pub returns-else-ready-clause-lives : goal.returns-else-ready-clause-lives
returns-else-ready-clause-lives g c =
    let f = c.requires.fit in
    rw (sym (whole_branch c.args.branch.now c.args.at.now.branch_len (omega (arith, f.branch_in, f.branch_room)))) (search rules)
