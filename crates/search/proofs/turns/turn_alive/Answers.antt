use Rattle.std.proofs.Common.{◌≡◌, ◌+◌, ◌*◌, ◌++◌, length, take, drop, sym, refl, ap, ◌∙◌, subst, arith}
use Rattle.model.specs.Decisions.{reduced}
use Rattle.model.specs.Words.{branch_of, base_of, recorded}
use Rattle.search.specs.declared.held.Progress.{Progress}
use Rattle.std.specs.List.{AllByRecursion}
use Rattle.propagation.specs.Bases.{Grouped}
use Rattle.propagation.specs.Indexed.{Knows}
use Rattle.search.specs.Turns.{state_of, decided_at}
use Rattle.search.proofs.States.{all_words, restarting_state, restarted_words, restarted_base, past_words, deciding_state, past_set}
use Rattle.propagation.specs.Filtered.{Lives}
use Rattle.search.specs.Families.{kept}
use Rattle.search.proofs.Remembering.{remembers_none, remembers_decided}
use Rattle.search.proofs.turns.turn_alive.Goals as goal

pub restart-requires : goal.restart-requires
restart-requires g c =
    let d = (c.if-is_due.ensures.yes refl).1 in
    let a = all_words c.args.at.now c.args.branch.now c.args.base.now c.requires.used c.requires.words in
    let k = c.requires.counted in
    record { within = omega arith; few = omega arith; room = omega arith; short = c.requires.short; counted = record { moves = omega arith; closings = k.closings; restarts = k.restarts; since = k.since } }

pub add-requires-clause-whole : goal.add-requires-clause-whole
add-requires-clause-whole g c =
    let p = c.args.at.now in
    let ws = c.args.branch.now in
    let bs = c.args.base.now in
    let bs' = c.restart.new.base in
    let e = c.restart.ensures in
    let new = recorded (reduced (branch_of ws p.branch_len)) in
    let used : c.restart.new.at.base_used ≡ p.base_used + length new = ap (λ (q : Progress). q.base_used) e.numbers in
    let wrote : bs' ≡ take p.base_used bs ++ (new ++ drop (p.base_used + length new) bs) = e.words ∙ ap (λ k. take p.base_used bs ++ (new ++ drop k bs)) used in
    ap (λ k. take k bs') used ∙ restarted_words p ws bs bs' c.requires.used c.requires.words wrote ∙ ap (λ k. recorded (base_of (take k bs'))) (sym used)

pub add-requires-clause-grouped : goal.add-requires-clause-grouped
add-requires-clause-grouped g c =
    let p = c.args.at.now in
    let ws = c.args.branch.now in
    let bs = c.args.base.now in
    let bs' = c.restart.new.base in
    let e = c.restart.ensures in
    let new = recorded (reduced (branch_of ws p.branch_len)) in
    let used : c.restart.new.at.base_used ≡ p.base_used + length new = ap (λ (q : Progress). q.base_used) e.numbers in
    let wrote : bs' ≡ take p.base_used bs ++ (new ++ drop (p.base_used + length new) bs) = e.words ∙ ap (λ k. take p.base_used bs ++ (new ++ drop k bs)) used in
    subst (AllByRecursion (Grouped 200)) (sym (ap (λ k. base_of (take k bs')) used ∙ restarted_base p ws bs bs' c.requires.used c.requires.words wrote)) c.requires.small

pub returns-then-is_due : goal.returns-then-is_due
returns-then-is_due g c =
    let p = c.args.at.now in
    let ws = c.args.branch.now in
    let bs = c.args.base.now in
    let bs' = c.restart.new.base in
    let e = c.restart.ensures in
    let new = recorded (reduced (branch_of ws p.branch_len)) in
    let due = c.if-is_due.ensures.yes refl in
    let a = all_words p ws bs c.requires.used c.requires.words in
    let room = due.1 in
    let used : c.restart.new.at.base_used ≡ p.base_used + length new = ap (λ (q : Progress). q.base_used) e.numbers in
    let len : c.restart.new.at.branch_len ≡ 0 = ap (λ (q : Progress). q.branch_len) e.numbers in
    let wrote : bs' ≡ take p.base_used bs ++ (new ++ drop (p.base_used + length new) bs) = e.words ∙ ap (λ k. take p.base_used bs ++ (new ++ drop k bs)) used in
    let kept = c.restart.auto.base in
    record {
      turn = (
        omega arith,
        c.if-not-some_wide.ensures.yes refl,
        record {
          due = due;
          state = ap (λ (q : Progress). state_of q ws bs') e.numbers ∙ restarting_state p ws bs bs' c.requires.used c.requires.words wrote;
          order = refl;
          policy = e.policy;
        },
      );
      within = omega arith;
      used = omega arith;
      words = ap (λ k. take k bs') used ∙ restarted_words p ws bs bs' c.requires.used c.requires.words wrote ∙ ap (λ k. recorded (base_of (take k bs'))) (sym used);
      kept = record {
        branch = refl;
        grown = omega arith;
        base = ap (λ k. drop k bs') used ∙ past_words p ws bs bs' c.requires.used c.requires.words wrote ∙ ap (λ k. drop k bs) (sym used);
      };
      known = c.add.ensures.known;
      wires = c.add.ensures.wires;
      spreads = c.add.ensures.spreads;
      remembers = λ lists book ds size cut lives keeps. remembers_none lists book _ _ _ _ _ c.clear.ensures.none c.clear.ensures.unready;
    }

pub returns : goal.returns
returns g c =
    let p = c.args.at.now in
    let ws = c.args.branch.now in
    let bs = c.args.base.now in
    let d = c.decide-group.ensures.decides in
    let wide = c.if-not-some_wide.ensures.yes refl in
    let spare = c.requires.spare wide in
    let used : c.decide-group.new.at.base_used ≡ p.base_used = ap (λ (q : Progress). q.base_used) d.numbers in
    let len : c.decide-group.new.at.branch_len ≡ p.branch_len + 1 = ap (λ (q : Progress). q.branch_len) d.numbers in
    record {
      turn = (
        omega arith,
        wide,
        record {
          not_due = c.if-is_due.ensures.no refl;
          group = d.group;
          channel = d.channel;
          grouped = d.grouped;
          channeled = d.channeled;
          state = ap (λ (q : Progress). state_of q c.decide-group.new.branch bs) d.numbers ∙ ap (λ xs. state_of (decided_at p) xs bs) d.words ∙ deciding_state p ws bs (64 * d.group + d.channel) (omega arith) d.small;
          order = d.after;
          policy = refl;
        },
      );
      within = omega arith;
      used = omega arith;
      words = ap (λ k. take k bs) used ∙ c.requires.words ∙ ap (λ k. recorded (base_of (take k bs))) (sym used);
      kept = record {
        branch = past_set (64 * length c.args.domains.now) p.branch_len _ ws c.decide-group.new.branch spare d.words;
        grown = omega arith;
        base = refl;
      };
      known = subst (λ k. Knows (take k bs) c.args.links.now.index) (sym used) c.requires.known;
      wires = refl;
      spreads = refl;
      remembers = λ lists book ds size cut lives keeps.
          let x = c.decide-group.result in
          let k = c.keep.ensures in
          let b' = c.keep.new.self in
          remembers_decided lists book p c.decide-group.new.at ws c.decide-group.new.branch bs ds c.args.befores.now b' x _ (omega (arith, size, c.requires.few)) d.numbers d.words keeps
          (subst (Lives lists book (base_of (take p.base_used bs)) (branch_of ws p.branch_len)) (sym cut) lives) k.at (ap (λ n. kept n b' x) size ∙ k.kept ∙ sym cut) k.others;
    }
