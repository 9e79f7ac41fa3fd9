use Rattle.std.proofs.Common.{◌≡◌, ℕ, List, Bor, get_or, sym, ap, ◌∙◌, subst, arith}
use Rattle.std.specs.List.{AllByRecursion}
use Rattle.std.proofs.ByRecursion.{All-weaker}
use Rattle.std.proofs.lemmas.List.{get_or-set_same}
use Rattle.rules.specs.Meanings.{Meaning}
use Rattle.propagation.specs.Waiting.{queued}
use Rattle.model.specs.Words.{base_of}
use Rattle.model.specs.Remains.{family}
use Rattle.propagation.specs.Supports.{Inside}
use Rattle.propagation.specs.Bases.{Good}
use Rattle.propagation.specs.Calms.{Going}
use Rattle.propagation.proofs.Walking.{good_step}
use Rattle.propagation.proofs.Turning.{agrees_same, calm_step}
use Rattle.propagation.proofs.Filtering.{on_err}
use Rattle.propagation.proofs.Deciding.{agrees_calm, agrees_good}
use Rattle.propagation.proofs.desk.Desk.resume.Goals as goal

pub returns-in_err-shrink-clause-dead : goal.returns-in_err-shrink-clause-dead
returns-in_err-shrink-clause-dead g c =
    let ms = c.args.self.now.domains.now in
    let x = c.args.g in
    let k = c.args.keeps in
    let s = c.shrink.ensures.same in
    on_err c.from_residual.result (x, omega (arith, s.groups, c.requires.group), ap (λ (y : List ℕ). get_or y x 0) c.shrink.ensures.left ∙ get_or-set_same ms x k 0 c.requires.group ∙ c.in_err-shrink.ensures.dead)

pub work-requires-clause-going : goal.work-requires-clause-going
work-requires-clause-going g c =
    let m = g.B.RuleBook.meaning c.args.self.now.book.now in
    let d0 = c.args.self.now in
    let d1 = c.shrink.new.self in
    let em : g.B.RuleBook.meaning d1.book.now ≡ m = ap (λ (b : Bor g.row.B.Denot). g.B.RuleBook.meaning b.now) c.shrink.ensures.same.book in
    let eb : base_of d1.base.now ≡ base_of d0.base.now = ap (λ (b : Bor (List ℕ)). base_of b.now) c.shrink.ensures.same.base in
    let step = c.in_ok-shrink.ensures.step in
    let base = base_of d0.base.now in
    subst (λ (x : Meaning). Going x d1) (sym em) (record {
      calm = calm_step m d0 d1 step (agrees_calm m base d0.domains.now (queued d0.line.ends) c.requires.agrees);
      good = subst (λ (x : List (List ℕ)). AllByRecursion (Good d1.domains.now (queued d1.settled)) x) (sym eb)
          (All-weaker (Good d0.domains.now (queued d0.settled)) (Good d1.domains.now (queued d1.settled)) (good_step m d0 d1 step) base (agrees_good m base d0.domains.now (queued d0.settled) c.requires.agrees));
    })

pub returns-clause-within : goal.returns-clause-within
returns-clause-within g c =
    let m = g.B.RuleBook.meaning c.args.self.now.book.now in
    let d0 = c.args.self.now in
    let d1 = c.shrink.new.self in
    let em : g.B.RuleBook.meaning d1.book.now ≡ m = ap (λ (b : Bor g.row.B.Denot). g.B.RuleBook.meaning b.now) c.shrink.ensures.same.book in
    let eb : base_of d1.base.now ≡ base_of d0.base.now = ap (λ (b : Bor (List ℕ)). base_of b.now) c.shrink.ensures.same.base in
    λ k a ins. c.work.ensures.within k (agrees_same m (g.B.RuleBook.meaning d1.book.now) (base_of d0.base.now) (base_of d1.base.now) k em eb a)
    (subst (λ (y : List ℕ). Inside k (family y)) (sym c.shrink.ensures.left) ins)
