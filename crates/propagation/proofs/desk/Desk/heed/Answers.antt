use Rattle.std.proofs.Common.{◌≡◌, ℕ, ◌<◌, length, Bor, Option, IfSome, sym, ap, subst, rules}
use Rattle.std.proofs.ByRecursion.{All-weaker}
use Rattle.std.proofs.lemmas.Option.{IfSome_then}
use Rattle.rules.specs.Meanings.{Meaning}
use Rattle.propagation.specs.Waiting.{queued}
use Rattle.model.specs.Remains.{Heeds}
use Rattle.model.specs.Words.{base_of}
use Rattle.propagation.specs.Desks.{Held, Step}
use Rattle.propagation.specs.Bases.{Good, Grouped, Spared}
use Rattle.propagation.specs.Chains.{Below}
use Rattle.propagation.specs.Indexed.{At}
use Rattle.propagation.proofs.Steps.{same_then, step_same, step_then}
use Rattle.propagation.proofs.Walking.{all_mid, good_step}
use Rattle.propagation.proofs.Chaining.{left_below, only_none}
use Rattle.propagation.proofs.Indexing.{all_met, chain_first, none_past, stands_here, chain_next, past_more}
use Rattle.propagation.proofs.desk.Desk.heed.Goals as goal

pub loop-next-init : goal.loop-next-init
loop-next-init g c =
    let m = g.B.RuleBook.meaning c.args.self.now.book.now in
    let d0 = c.args.self.now in
    let known = c.requires.based.known in
    record {
      same = search rules;
      held = c.requires.held;
      step = step_same m d0;
      within = λ k h ins. ins;
      here = chain_first d0.base.now d0.index.now known c.args.v c.last-next.result c.last-next.ensures;
      past = λ s p t l. absurd (none_past d0.base.now d0.index.now known c.args.v c.last-next.result c.last-next.ensures s p t l);
      others = c.requires.others;
    }

pub nogood-requires-clause-starts : goal.nogood-requires-clause-starts
nogood-requires-clause-starts g c =
    let d0 = c.args.self.now in
    let ws = d0.base.now in
    let here : Below (At (base_of ws)) (length ws) c.args.v c.in-Some.p = subst (λ (o : Option ℕ). IfSome o (Below (At (base_of ws)) (length ws) c.args.v)) c.in-Some.is c.loop-next.invariant.here in
    let r = stands_here ws d0.index.now c.requires.based.known c.args.v c.in-Some.p here in
    (r.nogood, r.starts)

pub look-requires-clause-grouped : goal.look-requires-clause-grouped
look-requires-clause-grouped g c =
    let m = g.B.RuleBook.meaning c.args.self.now.book.now in
    let d0 = c.args.self.now in
    let ws = d0.base.now in
    let i = c.loop-next.invariant in
    let here : Below (At (base_of ws)) (length ws) c.args.v c.in-Some.p = subst (λ (o : Option ℕ). IfSome o (Below (At (base_of ws)) (length ws) c.args.v)) c.in-Some.is i.here in
    let r = stands_here ws d0.index.now c.requires.based.known c.args.v c.in-Some.p here in
    let e = c.nogood.ensures r.nogood r.starts in
    subst (λ (n : ℕ). Grouped n c.nogood.result.now) (sym i.held.fits.groups) (subst (Grouped m.groups) (sym e) (all_mid (Grouped m.groups) (base_of ws) r.starts.before r.nogood r.starts.after r.starts.parts c.requires.based.grouped))

pub returns-in_err-look-clause-within : goal.returns-in_err-look-clause-within
returns-in_err-look-clause-within g c =
    let d0 = c.args.self.now in
    let ws = d0.base.now in
    let i = c.loop-next.invariant in
    let here : Below (At (base_of ws)) (length ws) c.args.v c.in-Some.p = subst (λ (o : Option ℕ). IfSome o (Below (At (base_of ws)) (length ws) c.args.v)) c.in-Some.is i.here in
    let r = stands_here ws d0.index.now c.requires.based.known c.args.v c.in-Some.p here in
    let e = c.nogood.ensures r.nogood r.starts in
    λ k h ins. c.look.ensures.within k (subst (Heeds k) (sym e) (all_mid (Heeds k) (base_of ws) r.starts.before r.nogood r.starts.after r.starts.parts h)) (i.within k h ins)

pub loop-next-smaller : goal.loop-next-smaller
loop-next-smaller g c =
    let d0 = c.args.self.now in
    let ws = d0.base.now in
    let here : Below (At (base_of ws)) (length ws) c.args.v c.in-Some.p = subst (λ (o : Option ℕ). IfSome o (Below (At (base_of ws)) (length ws) c.args.v)) c.in-Some.is c.loop-next.invariant.here in
    left_below c.loop-next.next c.before-next.result c.in-Some.p c.in-Some.is (Below (At (base_of ws)) (length ws) c.args.v)
    (chain_next ws d0.index.now c.requires.based.known c.args.v c.in-Some.p here c.before-next.result c.before-next.ensures)

pub loop-next-preserved : goal.loop-next-preserved
loop-next-preserved g c =
    let m = g.B.RuleBook.meaning c.args.self.now.book.now in
    let d0 = c.args.self.now in
    let d1 = c.loop-next.self in
    let d2 = c.look.new.self in
    let ws = d0.base.now in
    let i = c.loop-next.invariant in
    let known = c.requires.based.known in
    let here : Below (At (base_of ws)) (length ws) c.args.v c.in-Some.p = subst (λ (o : Option ℕ). IfSome o (Below (At (base_of ws)) (length ws) c.args.v)) c.in-Some.is i.here in
    let r = stands_here ws d0.index.now known c.args.v c.in-Some.p here in
    let e = c.nogood.ensures r.nogood r.starts in
    let next = chain_next ws d0.index.now known c.args.v c.in-Some.p here c.before-next.result c.before-next.ensures in
    let em : g.B.RuleBook.meaning d1.book.now ≡ m = ap (λ (b : Bor g.row.B.Denot). g.B.RuleBook.meaning b.now) i.same.book in
    let step : Step m d1 d2 = subst (λ (x : Meaning). Step x d1 d2) em c.in_ok-look.ensures.step in
    record {
      same = same_then d0 d1 d2 i.same c.look.ensures.same;
      held = subst (λ (x : Meaning). Held x d2) em c.in_ok-look.ensures.held;
      step = step_then m d0 d1 d2 i.step step;
      within = λ k h ins. c.look.ensures.within k (subst (Heeds k) (sym e) (all_mid (Heeds k) (base_of ws) r.starts.before r.nogood r.starts.after r.starts.parts h)) (i.within k h ins);
      here = IfSome_then c.before-next.result next (λ y t. t.1);
      past = past_more (Good d2.domains.now (queued d2.settled)) ws d0.index.now known c.args.v c.in-Some.p here c.before-next.result c.before-next.ensures
          (subst (Good d2.domains.now (queued d2.settled)) e (λ _. c.in_ok-look.ensures.heeds))
          (λ s q t l. good_step m d1 d2 step t.nogood (i.past s q t (subst (λ (o : Option ℕ). IfSome o (λ y. y < q)) (sym c.in-Some.is) l)));
      others = All-weaker (λ n. Spared c.args.v n → Good d1.domains.now (queued d1.settled) n) (λ n. Spared c.args.v n → Good d2.domains.now (queued d2.settled) n) (λ n h p. good_step m d1 d2 step n (h p)) (base_of ws) i.others;
    }

pub returns-clause-good : goal.returns-clause-good
returns-clause-good g c =
    let d1 = c.loop-next.self in
    let i = c.loop-next.invariant in
    all_met (Good d1.domains.now (queued d1.settled)) c.args.v (base_of c.args.self.now.base.now) i.others (λ s p t. i.past s p t (subst (λ (o : Option ℕ). IfSome o (λ y. y < p)) (sym (only_none c.loop-next.next (λ x e. c.in_default.not-Some x e))) tt))
