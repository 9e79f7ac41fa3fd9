use Rattle.std.proofs.Common.{◌≡◌, ℕ, ◌+◌, List, ◌++◌, length, take, drop, sym, refl, ap, ◌∙◌, arith}
use Rattle.model.specs.Decisions.{reduced}
use Rattle.model.specs.Words.{branch_of, recorded}
use Rattle.model.specs.Moves.{nogoods, restarting}
use Rattle.laws.proofs.Refusals.{restart_stands}
use Rattle.search.specs.declared.held.Progress.{Progress}
use Rattle.search.specs.Turns.{state_of}
use Rattle.search.proofs.States.{restarting_state, used_words_lem, past_words}
use Rattle.search.proofs.Ready.{ready_restart}
use Rattle.search.proofs.Along.{found_open}
use Rattle.rules.specs.Refusals.{told}
use Rattle.laws.proofs.Runs.{refused_restart_continues, restart_continues}
use Rattle.search.specs.Restarts.{recall}
use Rattle.search.proofs.calls.restart.Goals as goal

pub returns-in-Err : goal.returns-in-Err
returns-in-Err g c =
    let q = recall c.args.search c.args.lists.now c.args.branch.now c.args.base.now in
    let e = c.in-Err.ensures in
    record {
      number = e;
      handed_back = refl;
      same_base = refl;
      same_policy = refl;
      continues = λ own meant l t f. refused_restart_continues own meant l t q f (told c.in-Err.refusal).0 (told c.in-Err.refusal).1 e;
    }

pub restart-requires : goal.restart-requires
restart-requires g c =
    let y = ready_restart c.args.search c.args.lists.now c.args.branch.now c.args.base.now c.in_default.ensures in
    let f = y.fit in
    record { within = omega (arith, f.branch_in, f.branch_room); few = omega (arith, f.branch_in, f.few); room = y.space; short = f.base_room; counted = y.counted }

pub invariant_of-result : goal.invariant_of-result
invariant_of-result g c =
    let p = c.args.search.at in
    let y = ready_restart c.args.search c.args.lists.now c.args.branch.now c.args.base.now c.in_default.ensures in
    let k = y.counted in
    let e = c.restart.ensures.numbers in
    let new = length (recorded (reduced (branch_of c.args.branch.now p.branch_len))) in
    let u : c.restart.new.at.base_used ≡ p.base_used + new = ap (λ (x : Progress). x.base_used) e in
    let l : c.restart.new.at.branch_len ≡ 0 = ap (λ (x : Progress). x.branch_len) e in
    let m : c.restart.new.at.counts.moves ≡ p.counts.moves + 1 = ap (λ (x : Progress). x.counts.moves) e in
    let d : c.restart.new.at.counts.closings ≡ p.counts.closings = ap (λ (x : Progress). x.counts.closings) e in
    let r : c.restart.new.at.counts.restarts ≡ p.counts.restarts + 1 = ap (λ (x : Progress). x.counts.restarts) e in
    let s : c.restart.new.at.since ≡ 0 = ap (λ (x : Progress). x.since) e in
    let a = y.space in
    let b = y.fit.base_room in
    let m' = k.moves in
    let d' = k.closings in
    let r' = k.restarts in
    record { sized = c.args.search.sized; within = omega arith; used = omega arith; counted = record { moves = omega arith; closings = omega arith; restarts = omega arith; since = omega arith } }

pub returns : goal.returns
returns g c =
    let search = c.args.search in
    let p = search.at in
    let lists = c.args.lists.now in
    let ws = c.args.branch.now in
    let bs = c.args.base.now in
    let bs' = c.restart.new.base in
    let y = ready_restart search lists ws bs c.in_default.ensures in
    let f = y.fit in
    let e = c.restart.ensures in
    let new = recorded (reduced (branch_of ws p.branch_len)) in
    let used : c.restart.new.at.base_used ≡ p.base_used + length new = ap (λ (x : Progress). x.base_used) e.numbers in
    let wrote : bs' ≡ take p.base_used bs ++ (new ++ drop (p.base_used + length new) bs) = e.words ∙ ap (λ k. take p.base_used bs ++ (new ++ drop k bs)) used in
    let state : (words : List ℕ) → state_of c.restart.new.at words bs' ≡ restarting (state_of p ws bs) =
    λ words. ap (λ (x : Progress). state_of x words bs') e.numbers ∙ restarting_state p ws bs bs' f.base_in f.words wrote in
    let words : take c.restart.new.at.base_used bs' ≡ recorded (nogoods (state_of p ws bs)) = ap (λ k. take k bs') used ∙ used_words_lem p ws bs bs' f.base_in f.words wrote in
    let space = y.space in
    let kept = c.restart.auto.base in
    record {
      accepted = c.in_default.ensures;
      groups = refl;
      state = state;
      words = words;
      grown = omega arith;
      past = ap (λ k. drop k bs') used ∙ past_words p ws bs bs' f.base_in f.words wrote ∙ ap (λ k. drop k bs) (sym used);
      policy = e.policy;
      next = λ xs. found_open search.groups c.restart.new.at lists 0 0 0 (record { domains = 0; marks = 0; ends = 0; settled = 0; plan = 0 }) xs bs' (restarting (state_of p ws bs)) y.searched (state xs) words (omega arith);
      continues = λ book law. restart_continues lists book law (state_of p ws bs) (recall search lists ws bs) (restart_stands (recall search lists ws bs) p.counts.closings p.counts.restarts c.in_default.ensures) c.in_default.ensures;
    }
