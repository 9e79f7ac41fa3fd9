use Rattle.std.proofs.Common.{◌≡◌, ℕ, true, eqb, sym, ap, ◌∙◌, subst}
use Rattle.std.proofs.lemmas.Bool.{eqb-true, and_parts}
use Rattle.rules.specs.Channels.{has}
use Rattle.rules.proofs.Digits.{shifted}
use Rattle.propagation.proofs.Starting.{sole_has, and_given}
use Rattle.propagation.proofs.start.alone.Goals as goal

pub returns-then-has_channel : goal.returns-then-has_channel
returns-then-has_channel c j =
    let m = c.args.set in
    let k = c.args.c in
    ap (λ (x : ℕ). has x j) (shifted 64 k c.requires) ∙ sole_has k j
    ∙ and_given (has m j) (eqb j k) (λ e. subst (λ (x : ℕ). has m x ≡ true) (sym (eqb-true j k e)) (and_parts _ _ (sym c.if-has_channel.ensures)).1)
