use Rattle.std.proofs.Common.{◌≡◌, ℕ, Bool, List, Bor, ap, subst}
use Rattle.rules.specs.Meanings.{Meaning}
use Rattle.model.specs.Words.{base_of}
use Rattle.propagation.specs.Calms.{Going, Moved, Turned}
use Rattle.propagation.specs.Desks.{Held}
use Rattle.propagation.proofs.Steps.{same_then}
use Rattle.propagation.proofs.Turning.{agrees_same}
use Rattle.propagation.proofs.desk.Desk.work.Goals as goal

pub returns-in_err-take_turn-clause-within : goal.returns-in_err-take_turn-clause-within
returns-in_err-take_turn-clause-within g c =
    let m = g.B.RuleBook.meaning c.args.self.now.book.now in
    let d0 = c.args.self.now in
    let d1 = c.loop.self in
    let d2 = c.take_turn.new.self in
    let i = c.loop.invariant in
    let em : g.B.RuleBook.meaning d1.book.now ≡ m = ap (λ (b : Bor g.row.B.Denot). g.B.RuleBook.meaning b.now) i.same.book in
    let eb : base_of d1.base.now ≡ base_of d0.base.now = ap (λ (b : Bor (List ℕ)). base_of b.now) i.same.base in
    λ k a ins. c.take_turn.ensures.within k (agrees_same m (g.B.RuleBook.meaning d1.book.now) (base_of d0.base.now) (base_of d1.base.now) k em eb a) (i.within k a ins)

pub loop-preserved : goal.loop-preserved
loop-preserved g c =
    let m = g.B.RuleBook.meaning c.args.self.now.book.now in
    let d0 = c.args.self.now in
    let d1 = c.loop.self in
    let d2 = c.take_turn.new.self in
    let i = c.loop.invariant in
    let em : g.B.RuleBook.meaning d1.book.now ≡ m = ap (λ (b : Bor g.row.B.Denot). g.B.RuleBook.meaning b.now) i.same.book in
    let eb : base_of d1.base.now ≡ base_of d0.base.now = ap (λ (b : Bor (List ℕ)). base_of b.now) i.same.base in
    let t : Moved (g.B.RuleBook.meaning d1.book.now) d1 d2 = subst (λ (b : Bool). Turned (g.B.RuleBook.meaning d1.book.now) d1 d2 b) c.if-branch.true c.in_ok-take_turn.ensures.turned in
    record {
      same = same_then d0 d1 d2 i.same c.take_turn.ensures.same;
      held = subst (λ (x : Meaning). Held x d2) em t.held;
      going = subst (λ (x : Meaning). Going x d2) em t.going;
      inside = λ x y h. i.inside x y (t.inside x y h);
      within = λ k a ins. c.take_turn.ensures.within k (agrees_same m (g.B.RuleBook.meaning d1.book.now) (base_of d0.base.now) (base_of d1.base.now) k em eb a) (i.within k a ins);
    }

pub returns-clause-within : goal.returns-clause-within
returns-clause-within g c =
    let m = g.B.RuleBook.meaning c.args.self.now.book.now in
    let d0 = c.args.self.now in
    let d1 = c.loop.self in
    let d2 = c.take_turn.new.self in
    let i = c.loop.invariant in
    let em : g.B.RuleBook.meaning d1.book.now ≡ m = ap (λ (b : Bor g.row.B.Denot). g.B.RuleBook.meaning b.now) i.same.book in
    let eb : base_of d1.base.now ≡ base_of d0.base.now = ap (λ (b : Bor (List ℕ)). base_of b.now) i.same.base in
    λ k a ins. c.take_turn.ensures.within k (agrees_same m (g.B.RuleBook.meaning d1.book.now) (base_of d0.base.now) (base_of d1.base.now) k em eb a) (i.within k a ins)
