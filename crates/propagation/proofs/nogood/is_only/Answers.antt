use Rattle.std.proofs.Common.{◌/◌, ◌%◌, get_or, inl, inr, arith}
use Rattle.std.proofs.lemmas.Bool.{cases_eq, eq-eqb, eqb-true}
use Rattle.rules.proofs.Digits.{Cut}
use Rattle.propagation.proofs.Heeding.{only_if, if_only}
use Rattle.propagation.proofs.nogood.is_only.Goals as goal

pub returns : goal.returns
returns c =
    let ms = c.args.domains.now in
    let v = c.args.v in
    let r = c.without.result in
    let b : Cut (get_or ms (v / 64) 0) (v % 64) r = rw (c.group_of.ensures, c.channel_of.ensures.is) at c.without.ensures.bits in (
      λ e. only_if ms v r b (eqb-true r 0 e),
      λ o. elim (cases_eq r 0) [ inl z ↦ eq-eqb r 0 z | inr n ↦ absurd (if_only ms v r (omega (arith, c.without.type_inv)) b o n) ],
    )
