use Rattle.std.proofs.Common.{◌≡◌, ℕ, List, Bor, sym, ap, ◌∙◌, subst}
use Rattle.std.specs.List.{AllByRecursion}
use Rattle.rules.specs.Meanings.{Meaning}
use Rattle.propagation.specs.declared.desk.Desk.{Desk}
use Rattle.propagation.specs.Waiting.{queued}
use Rattle.model.specs.Remains.{family, Heeds}
use Rattle.model.specs.Words.{base_of}
use Rattle.propagation.specs.Bases.{Good}
use Rattle.propagation.specs.Supports.{Inside}
use Rattle.propagation.specs.Desks.{Held, Step}
use Rattle.propagation.specs.Calms.{Calm, Going}
use Rattle.propagation.proofs.Turning.{agrees_same, calm_step}
use Rattle.propagation.proofs.Filtering.{calm_served}
use Rattle.propagation.specs.declared.records.Assignment.{Assignment}
use Rattle.propagation.specs.Settling.{Settled}
use Rattle.propagation.proofs.Groups.{settled_none}
use Rattle.propagation.proofs.desk.Desk.run.Goals as goal

pub returns-in_err-heed_all-clause-within : goal.returns-in_err-heed_all-clause-within
returns-in_err-heed_all-clause-within g c = λ k a ins.
    let only = c.queue_narrow.ensures.only in
    c.heed_all.ensures.within k (subst (λ (d : Desk g.row.B.Denot). AllByRecursion (Heeds k) (base_of d.base.now)) (sym only) a.heeds)
    (subst (λ (d : Desk g.row.B.Denot). Inside k (family d.domains.now)) (sym only) ins)

pub heed_all-requires-clause-held : goal.heed_all-requires-clause-held
heed_all-requires-clause-held g c =
    let d = c.args.self.now in
    let m = g.B.RuleBook.meaning d.book.now in
    let l = c.queue_narrow.new.self.line in
    subst (λ (x : Desk g.row.B.Denot). Held (g.B.RuleBook.meaning x.book.now) x) (sym c.queue_narrow.ensures.only) (record {
      fits = record {
        wired = c.requires.laid.fits.wired;
        spread = c.requires.laid.fits.spread;
        groups = c.requires.laid.fits.groups;
        rules = c.queue_narrow.ensures.line.rules ∙ c.requires.laid.fits.rules;
        room = c.requires.laid.fits.room;
      };
      settled = subst (λ (x : List Assignment). Settled d.domains.now x) (sym c.requires.laid.no_settled) (settled_none d.domains.now);
      alive = c.requires.alive;
      small = c.requires.small;
    })

pub work-requires-clause-going : goal.work-requires-clause-going
work-requires-clause-going g c =
    let m = g.B.RuleBook.meaning c.args.self.now.book.now in
    let d0 = c.args.self.now in
    let d1 = c.queue_narrow.new.self in
    let d2 = c.heed_all.new.self in
    let only = c.queue_narrow.ensures.only in
    let em : g.B.RuleBook.meaning d2.book.now ≡ m = ap (λ (b : Bor g.row.B.Denot). g.B.RuleBook.meaning b.now) c.heed_all.ensures.same.book ∙ ap (λ (d : Desk g.row.B.Denot). g.B.RuleBook.meaning d.book.now) only in
    let e1 : g.B.RuleBook.meaning d1.book.now ≡ m = ap (λ (d : Desk g.row.B.Denot). g.B.RuleBook.meaning d.book.now) only in
    let law = g.B.RuleBook.lawful d0.book.now in
    let e = c.in_ok-heed_all.ensures in
    let f = c.requires.laid.fits in
    let calm = calm_served m law d0.domains.now (queued d1.line.ends) f.groups c.requires.small c.queue_narrow.ensures.served in
    subst (λ (x : Meaning). Going x d2) (sym em) (record {
      calm = calm_step m d1 d2 (subst (λ (x : Meaning). Step x d1 d2) e1 e.step) (subst (λ (d : Desk g.row.B.Denot). Calm m d.domains.now (queued d.line.ends)) (sym only) calm);
      good = subst (λ (b : Bor (List ℕ)). AllByRecursion (Good d2.domains.now (queued d2.settled)) (base_of b.now)) (sym c.heed_all.ensures.same.base) e.good;
    })

pub returns-clause-within : goal.returns-clause-within
returns-clause-within g c =
    let d1 = c.queue_narrow.new.self in
    let d2 = c.heed_all.new.self in
    let only = c.queue_narrow.ensures.only in
    let em : g.B.RuleBook.meaning d2.book.now ≡ g.B.RuleBook.meaning c.args.self.now.book.now = ap (λ (b : Bor g.row.B.Denot). g.B.RuleBook.meaning b.now) c.heed_all.ensures.same.book ∙ ap (λ (d : Desk g.row.B.Denot). g.B.RuleBook.meaning d.book.now) only in
    let eb : base_of d2.base.now ≡ base_of c.args.self.now.base.now = ap (λ (b : Bor (List ℕ)). base_of b.now) c.heed_all.ensures.same.base ∙ ap (λ (d : Desk g.row.B.Denot). base_of d.base.now) only in
    λ k a ins. c.work.ensures.within k (agrees_same _ (g.B.RuleBook.meaning d2.book.now) _ (base_of d2.base.now) k em eb a)
    (c.heed_all.ensures.within k (subst (λ (d : Desk g.row.B.Denot). AllByRecursion (Heeds k) (base_of d.base.now)) (sym only) a.heeds)
    (subst (λ (d : Desk g.row.B.Denot). Inside k (family d.domains.now)) (sym only) ins))
