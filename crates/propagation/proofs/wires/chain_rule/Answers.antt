use Rattle.std.proofs.Common.{◌≡◌, ℕ, ◌+◌, ◌*◌, true, false, None, sym, subst, arith}
use Rattle.propagation.specs.Wires.{Facing, Chained}
use Rattle.propagation.proofs.Wiring.{chained_skip, facing_none}
use Rattle.propagation.proofs.wires.chain_rule.Goals as goal

pub returns-in_default : goal.returns-in_default
returns-in_default g c =
    let m = g.B.RuleBook.meaning c.args.book.now in
    let i = c.args.i in
    let ws = c.args.wires.now in
    let none : m.ends i ≡ None = sym c.in_default.ensures.read in
    let a : 2 * i ≡ 2 * i + 0 = omega arith in
    let b : 2 * i + 1 + 1 ≡ 2 * (i + 1) = omega arith in
    subst (λ (x : ℕ). Chained m x ws) b
    (chained_skip m (2 * i + 1) ws (facing_none m i true none)
    (chained_skip m (2 * i) ws (λ h f. facing_none m i false none h (subst (Facing m h) a f)) c.requires.before))
