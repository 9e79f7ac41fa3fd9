use Rattle.std.proofs.Common.{◌≡◌, ◌*◌, ◌<◌, ◌≤◌, get_or, ◌++◌, length, take, drop, sym, refl, ap, ◌∙◌, subst, arith}
use Rattle.std.proofs.lemmas.List.{length-take-le, length-append, length-drop, take_at, drop_at}
use Rattle.branching.specs.Channels.{Open}
use Rattle.model.specs.Words.{branch_of, base_of, recorded}
use Rattle.propagation.specs.Filtered.{Lives}
use Rattle.propagation.specs.Wires.{Wired}
use Rattle.propagation.specs.Spreads.{Spreads}
use Rattle.propagation.specs.Indexed.{Knows}
use Rattle.search.specs.Turns.{state_of, AliveTurn, KeptWords}
use Rattle.search.proofs.Turning.{dead_masks, live_masks, spare, turned_dead, turned_alive, turned_whole, fit_whole, small_nogoods, length_branch_of}
use Rattle.search.proofs.States.{past_more}
use Rattle.model.specs.Masks.{grp}
use Rattle.model.specs.Decisions.{word}
use Rattle.model.proofs.Words.{is_taken}
use Rattle.search.proofs.Fronts.{listed_word}
use Rattle.search.proofs.turns.turn.Goals as goal

pub returns-in-Err : goal.returns-in-Err
returns-in-Err g c =
    let lists = c.args.lists.now in
    let m = g.B.RuleBook.meaning c.args.book.now in
    let law = g.B.RuleBook.lawful c.args.book.now in
    let om = g.O.Order.meaning in
    let pm = g.P.RestartPolicy.meaning in
    let p = c.args.at.now in
    let p' = c.turn_dead.new.at in
    let ws = c.args.regions.now.branch.now in
    let ws' = c.turn_dead.new.branch in
    let bs = c.args.regions.now.base.now in
    let s = state_of p ws bs in
    let s' = state_of p' ws' bs in
    let h = g.O.Order.held c.args.order.now in
    let h' = g.O.Order.held c.turn_dead.new.order in
    let q = g.P.RestartPolicy.held c.args.policy.now in
    let f = c.requires.fit in
    let d = c.turn_dead.ensures in
    let ds = c.refresh-remains.new.domains in
    let ns = c.turn_dead.new.domains in
    let n = length lists in
    let inside : n ≤ length ds = omega (arith, c.refresh-remains.auto.domains, c.requires.roomy.domains) in
    let front = length-take-le n ds inside in
    let long : length ns ≡ n = c.turn_dead.auto.domains ∙ front in
    let masks = take n (ns ++ drop n ds) in
    let t = turned_dead lists m om pm (length bs) c.args.left masks h h' q q s s' c.turn_dead.result (d.turn bs) (dead_masks lists m law s (c.in-Err.ensures.dead)) refl in
    let w = turned_whole lists m om pm (length bs) c.args.left masks h h' q q s s' f.few g.met.O.Order.lawful g.met.P.RestartPolicy.lawful c.turn_dead.result t (fit_whole lists p ws bs f) in
    let used = d.used in
    let kept = c.turn_dead.auto.branch in
    record {
      same = record { domains = refl; marks = refl; ends = refl; settled = refl; domains_size = length-append ns (drop n ds) ∙ omega (arith, long, length-drop n ds, inside) ∙ c.refresh-remains.auto.domains; marks_size = c.refresh-remains.auto.marks; ends_size = c.refresh-remains.auto.ends; settled_size = c.refresh-remains.auto.settled; branch = refl; plan = refl; base = refl; branch_size = kept; plan_size = refl; base_size = refl };
      plan = refl;
      turned = t;
      fit = record {
        some = f.some;
        few = f.few;
        branch_in = omega (arith, d.shorter, f.branch_in);
        branch_room = omega (arith, kept, f.branch_room);
        base_in = omega (arith, used, f.base_in);
        base_room = f.base_room;
        sound = w.branch;
        nogoods = w.base;
        words = ap (λ k. take k bs) used ∙ f.words ∙ ap (λ k. recorded (base_of (take k bs))) (sym used);
      };
      linked = record { wired = c.requires.linked.wired; spread = c.requires.linked.spread; known = subst (λ k. Knows (take k bs) c.args.links.now.index) (sym used) c.requires.linked.known };
      remembers = d.remembers lists m bs (ns ++ drop n ds) (sym front) (take_at ns (drop n ds) n long) c.requires.remembers.keeps;
      beyond = record { domains = drop_at ns (drop n ds) n long ∙ c.refresh-remains.ensures.beyond.domains; marks = c.refresh-remains.ensures.beyond.marks; ends = c.refresh-remains.ensures.beyond.ends; settled = c.refresh-remains.ensures.beyond.settled };
      kept = record {
        branch = past_more ws ws' p.branch_len (64 * length lists) f.branch_in d.past;
        grown = omega (arith, used);
        base = refl;
      };
    }

pub turn_dead-requires-clause-grouped : goal.turn_dead-requires-clause-grouped
turn_dead-requires-clause-grouped g c = λ i l low.
    let lists = c.args.lists.now in
    let ws = c.args.regions.now.branch.now in
    let f = c.requires.fit in
    let a = (listed_word lists ws c.args.at.now.branch_len f.sound i l).group in
    let b : grp (get_or ws i 0) < length lists = subst (λ d. grp (word d) < length lists) (is_taken (get_or ws i 0) low) a in
    omega (arith, b, f.few)

pub turn_alive-requires : goal.turn_alive-requires
turn_alive-requires g c =
    let lists = c.args.lists.now in
    let m = g.B.RuleBook.meaning c.args.book.now in
    let p = c.args.at.now in
    let ws = c.args.regions.now.branch.now in
    let bs = c.args.regions.now.base.now in
    let f = c.requires.fit in
    let ds = c.refresh-remains.new.domains in
    let inside : length lists ≤ length ds = omega (arith, c.refresh-remains.auto.domains, c.requires.roomy.domains) in
    let size = c.split_at.ensures.front_len in
    let lives = c.in_default.ensures.lives in
    let leaves = live_masks lists m (state_of p ws bs) (take (length lists) ds) (length-take-le (length lists) ds inside) lives in
    record {
      few = omega (arith, f.few, size);
      unready = refl;
      within = omega (arith, f.branch_in, size);
      room = omega (arith, f.branch_room, size);
      spare = λ o.
          let k = spare lists m (state_of p ws bs) (take (length lists) ds) leaves (fit_whole lists p ws bs f) o.0 (subst (λ ms. Open ms o.0) c.split_at.ensures.front (o.1)) in
          let n = length_branch_of ws p.branch_len in
          omega arith;
      used = f.base_in;
      short = f.base_room;
      words = f.words;
      small = small_nogoods lists (state_of p ws bs) f.few (fit_whole lists p ws bs f);
      known = c.requires.linked.known;
      counted = c.requires.counted;
    }

pub returns : goal.returns
returns g c =
    let lists = c.args.lists.now in
    let m = g.B.RuleBook.meaning c.args.book.now in
    let om = g.O.Order.meaning in
    let pm = g.P.RestartPolicy.meaning in
    let p = c.args.at.now in
    let p' = c.turn_alive.new.at in
    let ws = c.args.regions.now.branch.now in
    let ws' = c.turn_alive.new.branch in
    let bs = c.args.regions.now.base.now in
    let bs' = c.turn_alive.new.base in
    let s = state_of p ws bs in
    let s' = state_of p' ws' bs' in
    let h = g.O.Order.held c.args.order.now in
    let h' = g.O.Order.held c.turn_alive.new.order in
    let q = g.P.RestartPolicy.held c.args.policy.now in
    let q' = g.P.RestartPolicy.held c.turn_alive.new.policy in
    let f = c.requires.fit in
    let d = c.turn_alive.ensures in
    let ds = c.refresh-remains.new.domains in
    let inside : length lists ≤ length ds = omega (arith, c.refresh-remains.auto.domains, c.requires.roomy.domains) in
    let masks = take (length lists) ds in
    let lives = c.in_default.ensures.lives in
    let leaves = live_masks lists m s masks (length-take-le (length lists) ds inside) lives in
    let size = c.split_at.ensures.front_len in
    let a = subst (λ ms. AliveTurn om pm (length bs) c.args.left ms h h' q q' s s' c.turn_alive.result) c.split_at.ensures.front d.turn in
    let kept = subst (λ k. KeptWords k p.base_used p'.base_used ws ws' bs bs') size d.kept in
    let t = turned_alive lists m om pm (length bs) c.args.left masks h h' q q' s s' c.turn_alive.result a leaves lives.alive in
    let w = turned_whole lists m om pm (length bs) c.args.left masks h h' q q' s s' f.few g.met.O.Order.lawful g.met.P.RestartPolicy.lawful c.turn_alive.result t (fit_whole lists p ws bs f) in
    record {
      same = record { domains = refl; marks = refl; ends = refl; settled = refl; domains_size = c.refresh-remains.auto.domains; marks_size = c.refresh-remains.auto.marks; ends_size = c.refresh-remains.auto.ends; settled_size = c.refresh-remains.auto.settled; branch = refl; plan = refl; base = refl; branch_size = c.turn_alive.auto.branch; plan_size = refl; base_size = c.turn_alive.auto.base };
      plan = refl;
      turned = t;
      fit = record {
        some = f.some;
        few = f.few;
        branch_in = omega (arith, d.within, size);
        branch_room = omega (arith, c.turn_alive.auto.branch, f.branch_room);
        base_in = d.used;
        base_room = omega (arith, c.turn_alive.auto.base, f.base_room);
        sound = w.branch;
        nogoods = w.base;
        words = d.words;
      };
      linked = record { wired = subst (Wired m) (sym d.wires) c.requires.linked.wired; spread = subst (Spreads m) (sym d.spreads) c.requires.linked.spread; known = d.known };
      remembers = d.remembers lists m ds (sym size) (sym c.split_at.ensures.front) (subst (Lives lists m (base_of (take p.base_used bs)) (branch_of ws p.branch_len)) (sym c.split_at.ensures.front) lives) c.requires.remembers.keeps;
      beyond = c.refresh-remains.ensures.beyond;
      kept = kept;
    }
