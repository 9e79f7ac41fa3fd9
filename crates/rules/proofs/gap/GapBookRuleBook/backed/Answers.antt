use Rattle.std.proofs.Common.{◌≡◌, ℕ, ◌+◌, ◌-◌, ◌&&◌, ◌||◌, Bool, true, leb, ltb, min, is_some, get_or, ◌∙◌, ap, arith, rules, tests}
use Rattle.rules.specs.Channels.{has}
use Rattle.rules.specs.Gaps.{gaps, no_gap}
use Rattle.rules.proofs.Apart.{far_kept}
use Rattle.rules.proofs.Rows.{and_has, or_has}
use Rattle.rules.proofs.gap.GapBookRuleBook.backed.Goals as goal

pub returns : goal.returns
returns c =
    let n = c.args.self.now.groups in
    let es = c.args.self.now.entries.now in
    let i = c.args.i in
    let gap = (get_or es i no_gap).gap in
    let low = c.lowest.result in
    let high = c.highest.result in
    let bound : is_some ((gaps n es).ends i) ≡ true = search (rules, tests) in
    let a : c.from.result + c.from-gap.result ≡ low + gap = omega (arith, c.from.ensures, c.from-gap.ensures) in
    let b : c.saturating_sub.result ≡ high + 1 - gap = c.saturating_sub.ensures ∙ ap (λ (x : ℕ). c.from-2.result + 1 - x) c.from-gap.ensures ∙ ap (λ (x : ℕ). x + 1 - gap) c.from-2.ensures in
    far_kept n es i bound c.args._second c.args.set c.args.across low high _ c.lowest.ensures.small c.lowest.ensures.there c.lowest.ensures.least
    c.highest.ensures.small c.highest.ensures.there c.highest.ensures.most
    (λ j. and_has c.args.set _ j ∙ ap (λ (x : Bool). has c.args.set j && x)
    (or_has c.from_on-above.result c.below-under.result j
    ∙ ap (λ (x : Bool). x || has c.below-under.result j) (c.from_on-above.ensures j ∙ ap (λ (x : ℕ). leb x j && ltb j 64) a)
    ∙ ap (λ (x : Bool). (leb (low + gap) j && ltb j 64) || x) (c.below-under.ensures j ∙ ap (λ (x : ℕ). ltb j (min x 64)) b)))
