use Rattle.std.proofs.Common.{◌≡◌, ℕ, ◌^◌, ◌<◌, ◌≤◌, List, [], length, get_or, take, drop, sym, refl, ap, ◌∙◌, subst, inl, inr, rules, arith}
use lib.Count.{count_trailing_zeros}
use Rattle.std.proofs.lemmas.List.{length-take-le, get_or-take}
use Rattle.laws.specs.Sittings.{Sits, none, plan, unsettled, ends_none, ends_plan, spent}
use Rattle.laws.specs.Orders.{behaviour, cutoffs}
use Rattle.search.specs.Turns.{state_of}
use Rattle.search.specs.Sittings.{lent_in}
use Rattle.search.specs.Regions.{sizes}
use Rattle.search.proofs.Ready.{ready}
use Rattle.search.proofs.Fronts.{small_base}
use Rattle.search.proofs.Along.{at, along_more, comes, settles, planned, stays, found_open, held_bounds, same_then, single}
use Rattle.search.proofs.Remembering.{remembers_none}
use Rattle.search.proofs.calls.sit.Goals as goal

pub moves-init : goal.moves-init
moves-init g c =
    let found = lent_in c.args.regions.now c.args.order.now c.args.policy.now in
    let r = ready (g.B.RuleBook.meaning c.args.book.now) c.args.search c.args.lists.now c.args.allowance found c.requires.accepted in (
      record {
        events = [];
        restarts = 0;
        order = refl;
        policy = refl;
        onward = λ v u sits. sits;
        counted = r.counted;
        fit = r.fit;
        beyond = record { domains = refl; marks = refl; ends = refl; settled = refl };
        kept = record { branch = refl; grown = omega arith; base = refl };
        room = refl;
        plan = refl;
      },
      search rules,
      c.link_all.ensures,
      remembers_none c.args.lists.now (g.B.RuleBook.meaning c.args.book.now) _ _ _ _ _ c.new-befores.ensures.none c.new-befores.ensures.unready,
    )

pub link_all-requires : goal.link_all-requires
link_all-requires g c =
    let found = lent_in c.args.regions.now c.args.order.now c.args.policy.now in
    let r = ready (g.B.RuleBook.meaning c.args.book.now) c.args.search c.args.lists.now c.args.allowance found c.requires.accepted in
    record {
      wires = c.blank-links.ensures.wires;
      spreads = c.blank-links.ensures.spreads;
      known = c.blank-links.ensures.known;
      groups = omega (arith, r.groups, r.fit.few);
      rules = r.rules;
      used = r.fit.base_in;
      short = r.fit.base_room;
      words = r.fit.words;
      small = small_base c.args.lists.now _ r.fit.few r.fit.nogoods;
    }

pub turn-requires : goal.turn-requires
turn-requires g c =
    let found = lent_in c.args.regions.now c.args.order.now c.args.policy.now in
    let r = ready (g.B.RuleBook.meaning c.args.book.now) c.args.search c.args.lists.now c.args.allowance found c.requires.accepted in
    let i = c.moves.invariant.0 in
    let k = c.moves.invariant.1 in
    record {
      fit = i.fit;
      counted = i.counted;
      groups = r.groups;
      rules = r.rules;
      roomy = record {
        domains = omega (arith, r.roomy.domains, k.domains_size);
        marks = omega (arith, r.roomy.marks, k.marks_size);
        ends = omega (arith, r.roomy.ends, k.ends_size);
        settled = omega (arith, r.roomy.settled, k.settled_size);
      };
      linked = c.moves.invariant.2;
      remembers = c.moves.invariant.3;
    }

pub moves-preserved : goal.moves-preserved
moves-preserved g c =
    let lists = c.args.lists.now in
    let e = c.in-Made.ensures in
    let found = lent_in c.args.regions.now c.args.order.now c.args.policy.now in
    let here = lent_in c.moves.regions c.moves.order c.moves.policy in
    let next = lent_in c.turn.new.regions c.turn.new.order c.turn.new.policy in (
      along_more g.O.Order.meaning g.P.RestartPolicy.meaning g.O.Order.held g.P.RestartPolicy.held (g.B.RuleBook.meaning c.args.book.now) lists c.args.allowance c.args.search.at found
          c.moves.left c.moves.at c.turn.new.at here next (take (length lists) c.turn.new.regions.domains.now) c.moves.invariant.0
          e.turned e.fit e.beyond e.kept e.plan e.same.base_size,
      same_then c.args.regions.now c.moves.regions c.turn.new.regions c.moves.invariant.1 e.same,
      e.linked,
      e.remembers,
    )

pub returns-in-None-clause-answers : goal.returns-in-None-clause-answers
returns-in-None-clause-answers g c =
    let lists = c.args.lists.now in
    let e = c.in-None.ensures in
    let t = e.turned in
    let i = c.moves.invariant.0 in
    let found = lent_in c.args.regions.now c.args.order.now c.args.policy.now in
    let here = lent_in c.moves.regions c.moves.order c.moves.policy in
    let next = lent_in c.turn.new.regions c.turn.new.order c.turn.new.policy in (
      settles g.O.Order.meaning g.P.RestartPolicy.meaning g.O.Order.held g.P.RestartPolicy.held (g.B.RuleBook.meaning c.args.book.now) c.args.search lists c.args.allowance found next none _
          (comes g.O.Order.meaning g.met.O.Order.lawful g.P.RestartPolicy.meaning g.met.P.RestartPolicy.lawful g.O.Order.held g.P.RestartPolicy.held (g.B.RuleBook.meaning c.args.book.now) (g.B.RuleBook.lawful c.args.book.now)
          c.args.search lists c.args.allowance found c.requires.accepted c.moves.left c.moves.at c.turn.new.at here next none i
          t.0.state t.0.order t.0.policy (ends_none t.1.0 t.1.1 t.1.2 t.2) (inr t.1) e.fit e.beyond e.kept),
      e.plan ∙ i.plan,
    )

pub invariant_of-result : goal.invariant_of-result
invariant_of-result g c =
    let e = c.in-Spent.ensures in
    let found = lent_in c.args.regions.now c.args.order.now c.args.policy.now in
    let y = ready (g.B.RuleBook.meaning c.args.book.now) c.args.search c.args.lists.now c.args.allowance found c.requires.accepted in
    let b = held_bounds c.args.search.groups c.moves.left c.args.lists.now c.moves.at c.turn.new.at c.moves.regions.branch.now c.moves.regions.base.now c.turn.new.regions.branch.now c.turn.new.regions.base.now y.searched c.moves.invariant.0.counted e.fit e.turned.0.state in
    record { sized = c.args.search.sized; within = b.0; used = b.1; counted = b.2 }

pub returns-in-Spent-clause-answers : goal.returns-in-Spent-clause-answers
returns-in-Spent-clause-answers g c =
    let lists = c.args.lists.now in
    let book = g.B.RuleBook.meaning c.args.book.now in
    let e = c.in-Spent.ensures in
    let t = e.turned in
    let i = c.moves.invariant.0 in
    let found = lent_in c.args.regions.now c.args.order.now c.args.policy.now in
    let here = lent_in c.moves.regions c.moves.order c.moves.policy in
    let next = lent_in c.turn.new.regions c.turn.new.order c.turn.new.policy in
    let y = ready (g.B.RuleBook.meaning c.args.book.now) c.args.search c.args.lists.now c.args.allowance found c.requires.accepted in
    let here-at = at (state_of c.moves.at c.moves.regions.branch.now c.moves.regions.base.now) i.events i.restarts in
    let stops : Sits lists book (behaviour g.O.Order.meaning (g.O.Order.held c.args.order.now)) (cutoffs g.P.RestartPolicy.meaning (g.P.RestartPolicy.held c.args.policy.now)) (length c.args.regions.now.base.now) c.moves.left here-at unsettled here-at =
    subst (λ (k : ℕ). Sits lists book (behaviour g.O.Order.meaning (g.O.Order.held c.args.order.now)) (cutoffs g.P.RestartPolicy.meaning (g.P.RestartPolicy.held c.args.policy.now)) (length c.args.regions.now.base.now) k here-at unsettled here-at) (sym t.1) (spent t.2) in
    let r = comes g.O.Order.meaning g.met.O.Order.lawful g.P.RestartPolicy.meaning g.met.P.RestartPolicy.lawful g.O.Order.held g.P.RestartPolicy.held (g.B.RuleBook.meaning c.args.book.now) (g.B.RuleBook.lawful c.args.book.now)
    c.args.search lists c.args.allowance found c.requires.accepted c.moves.left c.moves.at c.turn.new.at here next unsettled i
    t.0.state t.0.order t.0.policy stops t.3 e.fit e.beyond e.kept in
    stays g.O.Order.meaning g.P.RestartPolicy.meaning g.O.Order.held g.P.RestartPolicy.held book c.args.search lists c.args.allowance found next _ r refl
    (found_open c.args.search.groups c.turn.new.at lists book.groups book.count c.args.allowance (sizes c.turn.new.regions)
    c.turn.new.regions.branch.now c.turn.new.regions.base.now r.end.state y.searched r.state r.words e.fit.base_in)
    (e.plan ∙ i.plan)

pub write_plan-requires : goal.write_plan-requires
write_plan-requires g c =
    let found = lent_in c.args.regions.now c.args.order.now c.args.policy.now in
    let y = ready (g.B.RuleBook.meaning c.args.book.now) c.args.search c.args.lists.now c.args.allowance found c.requires.accepted in
    let i = c.moves.invariant.0 in
    let e = c.in-Plan.ensures in
    omega (arith, y.plan, ap length e.plan, ap length i.plan, c.split_at.ensures.front_len)

pub returns-in-Plan-clause-answers : goal.returns-in-Plan-clause-answers
returns-in-Plan-clause-answers g c =
    let lists = c.args.lists.now in
    let book = g.B.RuleBook.meaning c.args.book.now in
    let lawful = g.B.RuleBook.lawful c.args.book.now in
    let e = c.in-Plan.ensures in
    let t = e.turned in
    let i = c.moves.invariant.0 in
    let found = lent_in c.args.regions.now c.args.order.now c.args.policy.now in
    let here = lent_in c.moves.regions c.moves.order c.moves.policy in
    let y = ready book c.args.search lists c.args.allowance found c.requires.accepted in
    let ds = c.turn.new.regions.domains.now in
    let xs = c.write_plan.new.plan in
    let x = take (length lists) xs in
    let masks = take (length lists) ds in
    let roomy : length lists ≤ length xs = omega (arith, y.plan, ap length e.plan, ap length i.plan, c.write_plan.auto.plan) in
    let w = c.write_plan.ensures in
    let cut = c.split_at.ensures.front in
    let size = c.split_at.ensures.front_len in
    let one = single lists masks x t.2 t.3 (λ k l. subst (λ (ms : List ℕ). get_or ms k 0 < 2 ^ 64) cut (w.fits k (omega (arith, size))))
    (λ k l. get_or-take (length lists) xs k 64 l ∙ w.written k (omega (arith, size)) ∙ ap (λ (ms : List ℕ). count_trailing_zeros 64 (get_or ms k 0)) cut) in
    let r = comes g.O.Order.meaning g.met.O.Order.lawful g.P.RestartPolicy.meaning g.met.P.RestartPolicy.lawful g.O.Order.held g.P.RestartPolicy.held book lawful
    c.args.search lists c.args.allowance found c.requires.accepted c.moves.left c.moves.at c.turn.new.at here _ (plan x) i
    t.0.state t.0.order t.0.policy (ends_plan masks t.1 x (length-take-le (length lists) xs roomy) one) (inl t.1) e.fit e.beyond e.kept in
    planned g.O.Order.meaning g.P.RestartPolicy.meaning g.O.Order.held g.P.RestartPolicy.held book c.args.search lists c.args.allowance found _ lawful y.groups _ r
    (subst (λ (k : ℕ). drop k xs ≡ drop k c.turn.new.regions.plan.now) size w.beyond ∙ ap (drop (length lists)) (e.plan ∙ i.plan))
