use Rattle.std.proofs.Common.{◌≡◌, ℕ, List, [], ◌∷◌, ◌++◌, length, Bor, sym, ap, ◌∙◌, subst}
use Rattle.std.proofs.ByRecursion.{All-weaker, All-push}
use Rattle.rules.specs.Meanings.{Meaning}
use Rattle.propagation.specs.Waiting.{queued}
use Rattle.model.specs.Remains.{Heeds}
use Rattle.model.specs.Words.{base_of}
use Rattle.propagation.specs.Desks.{Held, Step}
use Rattle.propagation.specs.Bases.{Good, Grouped}
use Rattle.propagation.proofs.Steps.{same_then, step_then}
use Rattle.propagation.proofs.Walking.{all_mid, good_step, parts_more}
use Rattle.propagation.proofs.desk.Desk.heed_all.Goals as goal

pub look-requires-clause-grouped : goal.look-requires-clause-grouped
look-requires-clause-grouped g c =
    let m = g.B.RuleBook.meaning c.args.self.now.book.now in
    let i = c.loop-nogood.invariant in
    let all = base_of c.args.self.now.base.now in
    let part = c.in-Some.nogood.now in
    let rest = base_of c.next.new.self.0.now in
    let first = c.in-Some.ensures.steps.nogoods in
    let done = i.done.0 in
    let e : all ≡ done ++ part ∷ rest = i.done.1 ∙ ap (λ (x : List (List ℕ)). done ++ x) first in
    let h = c.requires.held in
    let size : m.groups ≡ length c.loop-nogood.self.domains.now = sym i.held.fits.groups in
    subst (λ (n : ℕ). Grouped n part) size (all_mid (Grouped m.groups) all done part rest e c.requires.based.grouped)

pub returns-in_err-look-clause-within : goal.returns-in_err-look-clause-within
returns-in_err-look-clause-within g c =
    let m = g.B.RuleBook.meaning c.args.self.now.book.now in
    let i = c.loop-nogood.invariant in
    let all = base_of c.args.self.now.base.now in
    let part = c.in-Some.nogood.now in
    let rest = base_of c.next.new.self.0.now in
    let first = c.in-Some.ensures.steps.nogoods in
    let done = i.done.0 in
    let e : all ≡ done ++ part ∷ rest = i.done.1 ∙ ap (λ (x : List (List ℕ)). done ++ x) first in
    λ k h ins. c.look.ensures.within k (all_mid (Heeds k) all done part rest e h) (i.within k h ins)

pub loop-nogood-preserved : goal.loop-nogood-preserved
loop-nogood-preserved g c =
    let m = g.B.RuleBook.meaning c.args.self.now.book.now in
    let i = c.loop-nogood.invariant in
    let all = base_of c.args.self.now.base.now in
    let part = c.in-Some.nogood.now in
    let rest = base_of c.next.new.self.0.now in
    let first = c.in-Some.ensures.steps.nogoods in
    let done = i.done.0 in
    let e : all ≡ done ++ part ∷ rest = i.done.1 ∙ ap (λ (x : List (List ℕ)). done ++ x) first in
    let d0 = c.args.self.now in
    let d1 = c.loop-nogood.self in
    let d2 = c.look.new.self in
    let em : g.B.RuleBook.meaning d1.book.now ≡ m = ap (λ (b : Bor g.row.B.Denot). g.B.RuleBook.meaning b.now) i.same.book in
    let step : Step m d1 d2 = subst (λ (x : Meaning). Step x d1 d2) em c.in_ok-look.ensures.step in
    record {
      can = tt;
      ends = tt;
      same = same_then d0 d1 d2 i.same c.look.ensures.same;
      held = subst (λ (x : Meaning). Held x d2) em c.in_ok-look.ensures.held;
      step = step_then m d0 d1 d2 i.step step;
      within = λ k h ins. c.look.ensures.within k (all_mid (Heeds k) all done part rest e h) (i.within k h ins);
      done = (
        done ++ part ∷ [],
        parts_more all done part rest e,
        All-push (Good d2.domains.now (queued d2.settled)) done part
            (All-weaker (Good d1.domains.now (queued d1.settled)) (Good d2.domains.now (queued d2.settled)) (good_step m d1 d2 step) done i.done.2) (λ _. c.in_ok-look.ensures.heeds),
      );
    }
