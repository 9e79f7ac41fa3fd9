use Rattle.std.proofs.Common.{◌≡◌, ℕ, true, get_or, sym, ap, ◌∙◌, subst, inl, inr, arith}
use Rattle.std.proofs.lemmas.Bool.{cases_eq, both_ways}
use Rattle.rules.specs.Channels.{has}
use Rattle.rules.proofs.Digits.{has_none}
use Rattle.propagation.specs.declared.desk.Desk.{Desk}
use Rattle.propagation.specs.Waiting.{queued}
use Rattle.propagation.specs.Supports.{Served}
use Rattle.propagation.proofs.Steps.{served_still}
use Rattle.propagation.proofs.desk.Desk.queue_narrow.Goals as goal

pub queue_unless_wide-requires-clause-some : goal.queue_unless_wide-requires-clause-some
queue_unless_wide-requires-clause-some g c = λ z.
    let ms = c.args.self.now.domains.now in
    let x = c.loop-g.g in
    let only = c.loop-g.invariant.only in
    let e : get_or ms x 0 ≡ 0 = subst (λ (d : Desk g.row.B.Denot). get_or d.domains.now x 0 ≡ 0) only z in
    let t = c.requires.alive x (omega (arith, c.loop-g-test.true, c.requires.fits.groups, c.requires.fits.spread.groups)) in
    both_ways (has 0 t.0) (has_none t.0) (subst (λ (y : ℕ). has y t.0 ≡ true) e t.1)

pub loop-g-preserved : goal.loop-g-preserved
loop-g-preserved g c =
    let m = g.B.RuleBook.meaning c.args.self.now.book.now in
    let ms = c.args.self.now.domains.now in
    let x = c.loop-g.g in
    let q' = queued c.queue_unless_wide.new.self.line.ends in
    let v = c.loop-g.invariant in
    let u = c.queue_unless_wide.ensures in
    let here : (i : ℕ) → Served m x (get_or ms x 0) i q' = subst (λ (d : Desk g.row.B.Denot). (i : ℕ) → Served (g.B.RuleBook.meaning d.book.now) x (get_or d.domains.now x 0) i q') v.only u.served in
    record {
      only = u.only ∙ ap (λ (d : Desk g.row.B.Denot). record d { line = c.queue_unless_wide.new.self.line }) v.only;
      line = record { places = u.line.places ∙ v.line.places; marks = u.line.marks ∙ v.line.marks; size = u.line.size ∙ v.line.size; rules = u.line.rules ∙ v.line.rules };
      served = λ h i l. elim (cases_eq h x) [
        | inl e ↦ subst (λ (y : ℕ). Served m y (get_or ms y 0) i q') (sym e) (here i)
        | inr d ↦ served_still m h (get_or ms h 0) i (queued c.loop-g.self.line.ends) q' u.still (v.served h i (omega arith))
      ];
    }

pub returns-clause-served : goal.returns-clause-served
returns-clause-served g c = λ x i l. c.loop-g.invariant.served x i (omega (arith, l, c.loop-g-test.false, c.requires.fits.groups, c.requires.fits.spread.groups))
