use Rattle.std.proofs.Common.{◌<◌, sym, refl, ap, ◌∙◌, arith}
use Rattle.model.specs.Decisions.{takens}
use Rattle.search.specs.declared.held.Progress.{Progress}
use Rattle.search.specs.Turns.{state_of, closed_at}
use Rattle.search.proofs.Fronts.{whole_branch, front_last}
use Rattle.search.proofs.States.{closing_state, blamed_last, last_some, past_set}
use Rattle.search.specs.Families.{kept}
use Rattle.search.proofs.Remembering.{remembers_closed}
use Rattle.search.proofs.turns.turn_dead.Goals as goal

pub returns-in_default-clause-turn : goal.returns-in_default-clause-turn
returns-in_default-clause-turn g c base = (ap takens (sym (whole_branch c.args.branch.now c.args.at.now.branch_len c.requires.within)) ∙ c.in_default.ensures, refl, refl)

pub close-group-requires-clause-last : goal.close-group-requires-clause-last
close-group-requires-clause-last g c = front_last c.args.branch.now c.args.at.now.branch_len c.requires.within c.in-Some.last c.in-Some.ensures

pub returns-then-left-eq0-clause-turn : goal.returns-then-left-eq0-clause-turn
returns-then-left-eq0-clause-turn g c base =
    let l = front_last c.args.branch.now c.args.at.now.branch_len c.requires.within c.in-Some.last c.in-Some.ensures in
    (c.if-left-eq0.true, last_some c.args.branch.now c.args.at.now.branch_len c.in-Some.last l, refl, refl)

pub returns-clause-turn : goal.returns-clause-turn
returns-clause-turn g c base =
    let p = c.args.at.now in
    let ws = c.args.branch.now in
    let last = c.in-Some.last in
    let l = front_last ws p.branch_len c.requires.within last c.in-Some.ensures in
    let e = c.close-group.ensures in (
      omega arith,
      last_some ws p.branch_len last l,
      ap (λ (q : Progress). state_of q c.close-group.new.branch base) e.numbers ∙ ap (λ xs. state_of (closed_at last p) xs base) e.words ∙ closing_state p ws base last l c.requires.within,
      c.told.ensures ∙ ap (λ k. g.O.Order.meaning.heard (g.O.Order.held c.args.order.now) k) (e.group ∙ sym (blamed_last ws p.branch_len last l)),
    )

pub returns-clause-past : goal.returns-clause-past
returns-clause-past g c =
    let l = front_last c.args.branch.now c.args.at.now.branch_len c.requires.within c.in-Some.last c.in-Some.ensures in
    past_set c.args.at.now.branch_len c.in-Some.last _ c.args.branch.now c.close-group.new.branch l.within c.close-group.ensures.words

pub returns-clause-remembers : goal.returns-clause-remembers
returns-clause-remembers g c = λ lists book base ds size cut keeps.
    let p = c.args.at.now in
    let ws = c.args.branch.now in
    let last = c.in-Some.last in
    let b = c.args.befores.now in
    let x = c.close-group.result in
    let l = front_last ws p.branch_len c.requires.within last c.in-Some.ensures in
    let e = c.close-group.ensures in
    let here : x < 200 = omega (arith, c.requires.grouped last l.within l.taken, e.group) in
    remembers_closed lists book p c.close-group.new.at ws c.close-group.new.branch base ds b c.back.new.self x last _ here e.numbers e.words keeps
    (λ r. let t = c.back.ensures.ready r in (t.0, cut ∙ t.1 ∙ ap (λ n. kept n b x) (sym size))) c.back.ensures.fewer c.back.ensures.kept
