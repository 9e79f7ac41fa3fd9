use Rattle.std.proofs.Common.{ℕ, ◌/◌, ◌<◌, length, get_or, sym, subst, arith}
use Rattle.std.proofs.ByRecursion.{All-get_or}
use Rattle.std.proofs.lemmas.Result.{on_ok_weaker}
use Rattle.model.specs.Remains.{family, Gone}
use Rattle.propagation.specs.Bases.{Forced}
use Rattle.propagation.proofs.Heeding.{heeds_at, forced_inside, unforced_heeds, gone_heeds}
use Rattle.propagation.proofs.desk.Desk.look.Goals as goal

pub returns-in-None-clause-heeds : goal.returns-in-None-clause-heeds
returns-in-None-clause-heeds g c = unforced_heeds (family c.args.self.now.domains.now) c.args.nogood.now c.in-None.ensures

pub returns-in-Some-clause-within : goal.returns-in-Some-clause-within
returns-in-Some-clause-within g c =
    let ms = c.args.self.now.domains.now in
    let n = c.args.nogood.now in
    let t = c.in-Some.ensures in
    let z = get_or n t.0 0 in
    let f : Forced (family ms) n z = subst (λ (x : ℕ). Forced (family ms) n x) t.2 t.3 in
    λ k h ins. c.remove.ensures.within k (subst (λ (x : ℕ). Gone k x) (sym t.2) (heeds_at k n t.0 t.1 h (forced_inside k (family ms) n z ins f))) ins

pub returns-in-Some-clause-heeds : goal.returns-in-Some-clause-heeds
returns-in-Some-clause-heeds g c =
    let ms = c.args.self.now.domains.now in
    let ms' = c.remove.new.self.domains.now in
    let n = c.args.nogood.now in
    let t = c.in-Some.ensures in
    let z = get_or n t.0 0 in
    let gone : Gone (family ms') z = subst (λ (x : ℕ). Gone (family ms') x) t.2 c.remove.ensures.gone in
    let b = All-get_or (λ v. v / 64 < length ms) n t.0 0 t.1 c.requires.grouped in
    on_ok_weaker c.remove.result
    (λ h. gone_heeds (family ms') n t.0 t.1 gone (h.alive (z / 64) (omega (arith, c.remove.ensures.same.groups, b))))
    c.remove.ensures.held
