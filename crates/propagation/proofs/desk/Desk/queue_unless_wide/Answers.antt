use Rattle.std.proofs.Common.{◌≡◌, ℕ, get_or, subst, inl, inr, arith}
use Rattle.std.proofs.lemmas.Bool.{or_cases}
use Rattle.rules.specs.Supports.{Enough}
use Rattle.propagation.proofs.desk.Desk.queue_unless_wide.Goals as goal

pub returns-else-from-self-clause-served : goal.returns-else-from-self-clause-served
returns-else-from-self-clause-served g c = λ i s e h f.
    let m = g.B.RuleBook.meaning c.args.self.now.book.now in
    let ws = c.args.self.now.spreads.now in
    let enough : Enough m i s (get_or ws c.args.g 0) = subst (λ (x : ℕ). Enough m i s (get_or ws x 0)) f (c.requires.fits.spread.enough i s e h) in
    let low = c.lowest.result in
    let high = c.highest.result in
    let apart = c.lowest.ensures.least high c.highest.ensures.there in
    inr (λ a l. elim (or_cases _ _ (enough (λ n. let z : ◌≡◌ {A = ℕ} 0 1 = cc in omega arith) a low high l (omega (arith, apart, c.if-from-self.false, c.from.ensures)) c.highest.ensures.small)) [
      | inl t ↦ (low, c.lowest.ensures.there, t)
      | inr t ↦ (high, c.highest.ensures.there, t)
    ])

pub returns-then-from-self-clause-wide : goal.returns-then-from-self-clause-wide
returns-then-from-self-clause-wide g c = λ a b h k l. absurd (omega (arith, l, c.lowest.ensures.least a h, c.highest.ensures.most b k, c.if-from-self.true, c.from.ensures))
