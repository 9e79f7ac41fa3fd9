use Rattle.std.proofs.Common.{ℕ, ◌^◌, ◌<◌, length, get_or, sym, ◌∙◌, subst, inr, arith, rules}
use Rattle.std.proofs.lemmas.List.{length-set, get_or-set_same}
use Rattle.propagation.specs.Supports.{Served}
use Rattle.propagation.specs.declared.desk.Desk.{Desk}
use Rattle.propagation.specs.Waiting.{queued, size}
use Rattle.propagation.specs.Settling.{assignment, Noting}
use Rattle.propagation.specs.Desks.{Held, Step}
use Rattle.propagation.proofs.Steps.{not_standing, shrink_settled, shrink_assignments, shrink_ends, shrink_falls, set_inside, set_alive}
use Rattle.propagation.proofs.Groups.{stands_room}
use Rattle.propagation.proofs.Deciding.{within_le}
use Rattle.rules.proofs.Digits.{has_some}
use Rattle.propagation.proofs.desk.Desk.shrink.Goals as goal

pub settle-requires-clause-room : goal.settle-requires-clause-room
settle-requires-clause-room g c =
    let ms = c.args.self.now.domains.now in
    let x = c.args.g in
    let k = c.args.keeps in
    let h = c.requires.held.settled in
    let s = queued c.args.self.now.settled in
    let fits : get_or ms x 0 < 2 ^ 64 = omega arith in
    let low = within_le k (get_or ms x 0) (omega arith) c.requires.inside in
    let less : k < get_or ms x 0 = omega (arith, low, c.if-keeps-old.false) in
    let some = has_some k (omega arith) c.if-keeps-eq0.false in
    let st = not_standing ms x k c.requires.group c.requires.inside fits less some s h in
    subst (λ (d : Desk g.row.B.Denot). length (queued d.settled) < size d.settled) (sym c.queue_unless_wide.ensures.only)
    (omega (arith, stands_room s (length ms) (assignment x 0) h.alone h.below st c.requires.group, c.requires.held.fits.room))

pub returns-clause-held : goal.returns-clause-held
returns-clause-held g c =
    let m = g.B.RuleBook.meaning c.args.self.now.book.now in
    let d = c.args.self.now in
    let ms = d.domains.now in
    let x = c.args.g in
    let k = c.args.keeps in
    let h = c.requires.held in
    let only = c.queue_unless_wide.ensures.only in
    let fits : get_or ms x 0 < 2 ^ 64 = omega arith in
    let low = within_le k (get_or ms x 0) (omega arith) c.requires.inside in
    let less : k < get_or ms x 0 = omega (arith, low, c.if-keeps-old.false) in
    let some = has_some k (omega arith) c.if-keeps-eq0.false in
    let s = queued d.settled in
    let s' = queued c.settle.new.settled in
    let noting : Noting x k s s' = subst (λ (e : Desk g.row.B.Denot). Noting x k (queued e.settled) s') only c.settle.ensures.noting in
    subst (λ (e : Desk g.row.B.Denot). Held m (record e { settled = c.settle.new.settled })) (sym only) (record {
      fits = record {
        wired = h.fits.wired;
        spread = h.fits.spread;
        groups = length-set ms x k ∙ h.fits.groups;
        rules = c.queue_unless_wide.ensures.line.rules ∙ h.fits.rules;
        room = search rules;
      };
      settled = shrink_settled ms x k c.requires.group c.requires.inside fits less some s s' h.settled noting;
      alive = set_alive ms x k c.requires.group some h.alive;
      small = λ y z e. h.small y z (set_inside ms x k c.requires.group c.requires.inside y z e);
    })

pub returns-clause-step : goal.returns-clause-step
returns-clause-step g c =
    let m = g.B.RuleBook.meaning c.args.self.now.book.now in
    let d = c.args.self.now in
    let ms = d.domains.now in
    let x = c.args.g in
    let k = c.args.keeps in
    let h = c.requires.held in
    let only = c.queue_unless_wide.ensures.only in
    let fits : get_or ms x 0 < 2 ^ 64 = omega arith in
    let low = within_le k (get_or ms x 0) (omega arith) c.requires.inside in
    let less : k < get_or ms x 0 = omega (arith, low, c.if-keeps-old.false) in
    let some = has_some k (omega arith) c.if-keeps-eq0.false in
    let s = queued d.settled in
    let s' = queued c.settle.new.settled in
    let noting : Noting x k s s' = subst (λ (e : Desk g.row.B.Denot). Noting x k (queued e.settled) s') only c.settle.ensures.noting in
    let q = queued d.line.ends in
    let q' = queued c.queue_unless_wide.new.self.line.ends in
    subst (λ (e : Desk g.row.B.Denot). Step m d (record e { settled = c.settle.new.settled })) (sym only) (record {
      inside = set_inside ms x k c.requires.group c.requires.inside;
      ends = shrink_ends ms x k c.requires.group c.requires.inside fits less some m q q' c.queue_unless_wide.ensures.still h.small
          (λ i. subst (λ (y : ℕ). Served m x y i q') (get_or-set_same ms x k 0 c.requires.group) (c.queue_unless_wide.ensures.served i));
      assignments = shrink_assignments ms x k c.requires.group c.requires.inside fits less some s s' noting;
      falls = inr (shrink_falls ms x k c.requires.group c.requires.inside fits less some);
    })
