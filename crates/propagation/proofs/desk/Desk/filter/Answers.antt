use Rattle.std.proofs.Common.{◌≡◌, ℕ, ◌^◌, ◌<◌, length, get_or, sym, ◌∙◌, arith}
use Rattle.std.proofs.lemmas.Result.{on_err_weaker}
use Rattle.model.specs.Words.{base_of, branch_of, decision}
use Rattle.model.specs.Remains.{family}
use Rattle.rules.proofs.Digits.{has_below}
use Rattle.propagation.proofs.Starting.{obeys_inside}
use Rattle.propagation.proofs.Filtering.{doomed, doomed_dies, lives, on_err, on_ok_three}
use Rattle.propagation.proofs.desk.Desk.filter.Goals as goal

pub run-requires-clause-small : goal.run-requires-clause-small
run-requires-clause-small g c = λ x y h.
    let ls = c.args.lists.now in
    has_below (get_or ls x 0) y (omega (arith, c.type_inv.lists x)) (c.prepare.ensures.inside x y h)

pub returns-in_err-prepare-clause-dead : goal.returns-in_err-prepare-clause-dead
returns-in_err-prepare-clause-dead g c =
    let m = g.B.RuleBook.meaning c.args.self.now.book.now in
    let law = g.B.RuleBook.lawful c.args.self.now.book.now in
    let ls = c.args.lists.now in
    let ws = c.args.branch.now in
    let base = base_of c.args.self.now.base.now in
    let fits : (i : ℕ) → get_or ls i 0 < 2 ^ 64 = λ i. omega (arith, c.type_inv.lists i) in
    let size : length c.args.self.now.domains.now ≡ length ls = c.requires.laid.fits.groups ∙ sym c.requires.groups in
    on_err c.from_residual.result (doomed_dies ls m law base (branch_of ws (length ws))
    (doomed ls m base ws fits c.prepare.new.domains (c.prepare.auto.domains ∙ size) (λ k o a ins. c.prepare.ensures.within k o ins) c.in_err-prepare.ensures.dead))

pub returns-clause-dead : goal.returns-clause-dead
returns-clause-dead g c =
    let m = g.B.RuleBook.meaning c.args.self.now.book.now in
    let law = g.B.RuleBook.lawful c.args.self.now.book.now in
    let ls = c.args.lists.now in
    let ws = c.args.branch.now in
    let base = base_of c.args.self.now.base.now in
    let fits : (i : ℕ) → get_or ls i 0 < 2 ^ 64 = λ i. omega (arith, c.type_inv.lists i) in
    let size : length c.args.self.now.domains.now ≡ length ls = c.requires.laid.fits.groups ∙ sym c.requires.groups in
    let r = c.run.ensures in
    on_err_weaker c.run.result (λ e. doomed_dies ls m law base (branch_of ws (length ws))
    (doomed ls m base ws fits c.run.new.self.domains.now (r.same.groups ∙ c.prepare.auto.domains ∙ size) (λ k o a ins. r.within k a (c.prepare.ensures.within k o ins)) e)) r.dead

pub returns-clause-lives : goal.returns-clause-lives
returns-clause-lives g c =
    let m = g.B.RuleBook.meaning c.args.self.now.book.now in
    let law = g.B.RuleBook.lawful c.args.self.now.book.now in
    let ls = c.args.lists.now in
    let ws = c.args.branch.now in
    let base = base_of c.args.self.now.base.now in
    let fits : (i : ℕ) → get_or ls i 0 < 2 ^ 64 = λ i. omega (arith, c.type_inv.lists i) in
    let size : length c.args.self.now.domains.now ≡ length ls = c.requires.laid.fits.groups ∙ sym c.requires.groups in
    let p = c.prepare.ensures in
    let r = c.run.ensures in
    let ms = c.run.new.self.domains.now in
    on_ok_three c.run.result (λ i a e. lives ls m base ws fits ms (r.same.groups ∙ c.prepare.auto.domains ∙ size) (λ k o a ins. r.within k a (p.within k o ins)) (λ x y h. p.inside x y (i x y h))
    (λ j l. obeys_inside (family ms) (family c.prepare.new.domains) (decision (get_or ws j 0)) i (p.obeys j l)) a e) r.inside r.agrees r.alive
