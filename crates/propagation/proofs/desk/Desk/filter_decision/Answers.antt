use Rattle.std.proofs.Common.{◌≡◌, ℕ, ◌-◌, ◌^◌, ◌<◌, length, get_or, sym, ◌∙◌, arith}
use Rattle.std.proofs.lemmas.Result.{on_err_weaker}
use Rattle.model.specs.Words.{base_of, branch_of}
use Rattle.model.specs.Remains.{family}
use Rattle.propagation.proofs.Filtering.{agrees_of, doomed, doomed_dies, lives, on_ok_three}
use Rattle.propagation.proofs.Deciding.{decided_carries, decided_inside, decided_obeys}
use Rattle.propagation.proofs.desk.Desk.filter_decision.Goals as goal

pub resume-requires-clause-agrees : goal.resume-requires-clause-agrees
resume-requires-clause-agrees g c =
    let ws = c.args.branch.now in
    agrees_of c.args.lists.now (g.B.RuleBook.meaning c.args.self.now.book.now) (base_of c.args.self.now.base.now) (branch_of ws (length ws - 1)) (family c.args.self.now.domains.now) c.requires.before.remains.meets

pub returns-clause-dead : goal.returns-clause-dead
returns-clause-dead g c =
    let m = g.B.RuleBook.meaning c.args.self.now.book.now in
    let law = g.B.RuleBook.lawful c.args.self.now.book.now in
    let ls = c.args.lists.now in
    let ws = c.args.branch.now in
    let base = base_of c.args.self.now.base.now in
    let fits : (i : ℕ) → get_or ls i 0 < 2 ^ 64 = λ i. omega (arith, c.type_inv.lists i) in
    let size : length c.args.self.now.domains.now ≡ length ls = c.requires.laid.fits.groups ∙ sym c.requires.groups in
    let ms = c.args.self.now.domains.now in
    let ms' = c.resume.new.self.domains.now in
    let x = c.left_by-g.result.0 in
    let k = c.left_by-g.result.1 in
    let d = c.left_by-g.ensures in
    let here : x < length ms = omega (arith, d.group, c.requires.group, size) in
    let r = c.resume.ensures in
    let carries = decided_carries ls m base ws fits ms c.requires.before c.requires.some x k here d.inside d.obeys d.within ms' r.within in
    on_err_weaker c.resume.result (λ e. doomed_dies ls m law base (branch_of ws (length ws)) (doomed ls m base ws fits ms' (r.same.groups ∙ size) carries e)) r.dead

pub returns-clause-lives : goal.returns-clause-lives
returns-clause-lives g c =
    let m = g.B.RuleBook.meaning c.args.self.now.book.now in
    let ls = c.args.lists.now in
    let ws = c.args.branch.now in
    let base = base_of c.args.self.now.base.now in
    let fits : (i : ℕ) → get_or ls i 0 < 2 ^ 64 = λ i. omega (arith, c.type_inv.lists i) in
    let size : length c.args.self.now.domains.now ≡ length ls = c.requires.laid.fits.groups ∙ sym c.requires.groups in
    let ms = c.args.self.now.domains.now in
    let ms' = c.resume.new.self.domains.now in
    let x = c.left_by-g.result.0 in
    let k = c.left_by-g.result.1 in
    let d = c.left_by-g.ensures in
    let here : x < length ms = omega (arith, d.group, c.requires.group, size) in
    let r = c.resume.ensures in
    let carries = decided_carries ls m base ws fits ms c.requires.before c.requires.some x k here d.inside d.obeys d.within ms' r.within in
    on_ok_three c.resume.result (λ i a e. lives ls m base ws fits ms' (r.same.groups ∙ size) carries
    (decided_inside ls m base ws fits ms c.requires.before c.requires.some x k here d.inside d.obeys d.within (family ms') i)
    (decided_obeys ls m base ws fits ms c.requires.before c.requires.some x k here d.inside d.obeys d.within (family ms') i) a e) r.inside r.agrees r.alive
