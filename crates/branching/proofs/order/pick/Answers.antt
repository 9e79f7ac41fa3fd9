use Rattle.std.proofs.Common.{◌≡◌, ℕ, List, None, Some, get_or, sym, ap, ◌∙◌, subst, arith}
use Rattle.branching.specs.Channels.{Open}
use Rattle.branching.specs.Order.{OrderMeaning, Domains, Lawful, Branches, Remains}
use Rattle.branching.specs.Bits.{counts_member}
use Rattle.branching.proofs.order.pick.Goals as goal

-- a group with two channels has one to answer
never_absent : {H : Type 0} (o : OrderMeaning H) → Lawful o → (h : H) (ms : List ℕ) (g : ℕ) → Domains ms → Some g ≡ o.group h ms → None ≡ o.channel (o.grouped h ms) ms g → ⊥
never_absent o laws h ms g d e f =
    let two : Open ms g = subst (Branches ms) (sym e) (laws.branches h ms d) in
    let some = counts_member 64 (get_or ms g 0) (d.words g) (omega arith) in
    subst (Remains ms g) (sym f) (laws.remains (o.grouped h ms) ms g d) some.0 some.1

pub returns-in_err-c-clause-good : goal.returns-in_err-c-clause-good
returns-in_err-c-clause-good g c =
    let o = g.O.Order.meaning in
    let ms = c.args.domains.now in
    absurd (never_absent o g.met.O.Order.lawful (g.O.Order.held c.args.order.now) ms c.in_ok-g.g (record { few = c.requires; words = λ i. omega (arith, c.type_inv.domains i) }) c.in_ok-g.ensures.answer (c.in_err-c.ensures.answer ∙ ap (λ h. o.channel h ms c.in_ok-g.g) c.group.ensures.after))
