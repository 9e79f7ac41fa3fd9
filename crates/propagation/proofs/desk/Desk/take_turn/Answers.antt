use Rattle.std.proofs.Common.{◌≡◌, ℕ, List, ◌∷◌, length, Bor, sym, refl, ap, subst, arith, rules}
use Rattle.std.specs.List.{AllByRecursion}
use Rattle.std.proofs.ByRecursion.{All-weaker}
use Rattle.propagation.specs.Waiting.{queued}
use Rattle.propagation.specs.declared.records.RuleEnd.{RuleEnd}
use Rattle.propagation.specs.declared.records.Assignment.{Assignment}
use Rattle.propagation.specs.Settling.{Settled}
use Rattle.model.specs.Words.{base_of}
use Rattle.propagation.specs.Bases.{Good}
use Rattle.propagation.specs.Calms.{Calm}
use Rattle.propagation.proofs.Walking.{good_step}
use Rattle.propagation.proofs.Turning.{spare, settled_from, weight_falls, calm_step, calm_looked, all_done}
use Rattle.propagation.proofs.Wiring.{step_still}
use Rattle.propagation.proofs.desk.Desk.take_turn.Goals as goal

pub heed-requires-clause-held : goal.heed-requires-clause-held
heed-requires-clause-held g c =
    let h = c.requires.held in
    record {
      fits = search rules;
      settled = settled_from c.args.self.now.domains.now (queued c.args.self.now.settled) (queued c.pop.new.self) _ c.in-Some.ensures.line h.settled;
      alive = h.alive;
      small = h.small;
    }

pub heed-requires-clause-others : goal.heed-requires-clause-others
heed-requires-clause-others g c =
    spare c.args.self.now.domains.now (queued c.args.self.now.settled) (queued c.pop.new.self) c.in-Some.a _ c.in-Some.ensures.line c.from.ensures (base_of c.args.self.now.base.now) c.requires.going.good

pub returns-in_err-heed-clause-within : goal.returns-in_err-heed-clause-within
returns-in_err-heed-clause-within g c = λ k a. c.heed.ensures.within k a.heeds

pub returns-in-Some-clause-within : goal.returns-in-Some-clause-within
returns-in-Some-clause-within g c = λ k a. c.heed.ensures.within k a.heeds

pub returns-in-Some-clause-turned : goal.returns-in-Some-clause-turned
returns-in-Some-clause-turned g c =
    let m = g.B.RuleBook.meaning c.args.self.now.book.now in
    let d0 = c.args.self.now in
    let d1 = record d0 { settled = c.pop.new.self } in
    let d2 = c.heed.new.self in
    let e = c.in_ok-heed.ensures in
    let base : base_of d2.base.now ≡ base_of d0.base.now = ap (λ (b : Bor (List ℕ)). base_of b.now) e.same.base in
    record {
      held = e.held;
      going = record {
        calm = calm_step m d1 d2 e.step c.requires.going.calm;
        good = subst (λ (x : List (List ℕ)). AllByRecursion (Good d2.domains.now (queued d2.settled)) x) (sym base) e.good;
      };
      inside = e.step.inside;
      falls = weight_falls m d0 d1 d2 e.held e.step refl (omega (arith, ap length c.in-Some.ensures.line));
    }

pub returns-in_err-revise-clause-within : goal.returns-in_err-revise-clause-within
returns-in_err-revise-clause-within g c = λ k a. c.revise.ensures.within k (a.supported c.in-Some-take.e.rule c.in-Some-take.e.second)

pub returns-in-Some-take-clause-within : goal.returns-in-Some-take-clause-within
returns-in-Some-take-clause-within g c = λ k a. c.revise.ensures.within k (a.supported c.in-Some-take.e.rule c.in-Some-take.e.second)

pub returns-in-Some-take-clause-turned : goal.returns-in-Some-take-clause-turned
returns-in-Some-take-clause-turned g c =
    let m = g.B.RuleBook.meaning c.args.self.now.book.now in
    let d0 = c.args.self.now in
    let ms = d0.domains.now in
    let o = c.in_default.ensures.line in
    let same : queued c.pop.new.self ≡ queued d0.settled = ap queued o.1 in
    let r = c.in-Some-take.e in
    let f = c.in-Some-take.ensures.first in
    let d1 = record d0 { line = c.take.new.self; settled = c.pop.new.self } in
    let d2 = c.revise.new.self in
    let e = c.in_ok-revise.ensures in
    let base : base_of d2.base.now ≡ base_of d0.base.now = ap (λ (b : Bor (List ℕ)). base_of b.now) e.same.base in
    let calm : Calm m ms (r ∷ queued c.take.new.self.ends) = subst (λ (x : List RuleEnd). Calm m ms x) f.1 c.requires.going.calm in
    let good : AllByRecursion (Good ms (queued c.pop.new.self)) (base_of d0.base.now) = subst (λ (x : List Assignment). AllByRecursion (Good ms x) (base_of d0.base.now)) (sym same) c.requires.going.good in
    record {
      held = e.held;
      going = record {
        calm = calm_looked m d1 d2 r e.step calm e.done;
        good = subst (λ (x : List (List ℕ)). AllByRecursion (Good d2.domains.now (queued d2.settled)) x) (sym base)
            (All-weaker (Good ms (queued c.pop.new.self)) (Good d2.domains.now (queued d2.settled)) (good_step m d1 d2 e.step) (base_of d0.base.now) good);
      };
      inside = e.step.inside;
      falls = weight_falls m d0 d1 d2 e.held e.step refl (omega (arith, ap length f.1, ap length same));
    }

pub returns-clause-turned : goal.returns-clause-turned
returns-clause-turned g c =
    let m = g.B.RuleBook.meaning c.args.self.now.book.now in
    let d0 = c.args.self.now in
    let ms = d0.domains.now in
    let h = c.requires.held in
    let o = c.in_default.ensures.line in
    let same : queued c.pop.new.self ≡ queued d0.settled = ap queued o.1 in
    let f = c.in_default-take.ensures.first in
    record {
      held = record {
        fits = search rules;
        settled = subst (λ (x : List Assignment). Settled ms x) (sym same) h.settled;
        alive = h.alive;
        small = h.small;
      };
      same = refl;
      agrees = all_done m (base_of d0.base.now) ms (queued d0.line.ends) (queued d0.settled) f.0 o.0 c.requires.going.calm c.requires.going.good;
    }

pub returns-in-Some-clause-first : goal.returns-in-Some-clause-first
returns-in-Some-clause-first g c = λ n. step_still (g.B.RuleBook.meaning c.args.self.now.book.now) (record c.args.self.now { settled = c.pop.new.self }) c.heed.new.self c.in_ok-heed.ensures.step

pub returns-in-Some-take-clause-first : goal.returns-in-Some-take-clause-first
returns-in-Some-take-clause-first g c = λ n. absurd (n c.in_default.ensures.line.0)

pub returns-clause-first : goal.returns-clause-first
returns-clause-first g c = λ n. absurd (n c.in_default.ensures.line.0)
