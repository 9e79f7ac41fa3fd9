use Rattle.std.proofs.Common.{◌≡◌, ℕ, ◌/◌, ◌%◌, ◌<◌, true, eqb, Option, IfSome, sym, refl, ap, ◌∙◌, subst, inl, inr, arith}
use Rattle.std.proofs.lemmas.Bool.{cases_eq, cases_lt, eq-eqb, eqb-true, or_cases, or_left, or_right}
use Rattle.std.proofs.lemmas.Option.{IfSome_then}
use Rattle.propagation.specs.declared.desk.Desk.{Desk}
use Rattle.propagation.specs.Waiting.{queued}
use Rattle.propagation.specs.Waits.{waits, at_end}
use Rattle.propagation.specs.Chains.{link}
use Rattle.propagation.specs.Wires.{Facing, Wired}
use Rattle.propagation.proofs.Chaining.{above_below, left_below}
use Rattle.propagation.proofs.Wiring.{facing_below, number_end}
use Rattle.propagation.proofs.desk.Desk.queue_across.Goals as goal

pub loop-next-init : goal.loop-next-init
loop-next-init g c =
    let w = c.requires.wired in
    record {
      only = refl;
      line = record { places = refl; marks = refl; size = refl; rules = refl };
      still = λ e h. h;
      no_more = λ e h. inl h;
      here = w.chains.head c.args.g;
      past = λ n f l. absurd (above_below _ n (w.chains.last c.args.g n f) l);
    }

pub add-requires : goal.add-requires
add-requires g c =
    let m = g.B.RuleBook.meaning c.args.self.now.book.now in
    let i = c.loop-next.invariant in
    let e = c.in-Some.e in
    let f : Facing m c.args.g e = subst (λ (o : Option ℕ). IfSome o (λ n. Facing m c.args.g n)) c.in-Some.is i.here in
    let z = facing_below m (g.B.RuleBook.lawful c.args.self.now.book.now) c.args.g e f in
    omega (arith, z, i.line.rules, c.requires.rules)

pub loop-next-smaller : goal.loop-next-smaller
loop-next-smaller g c =
    let m = g.B.RuleBook.meaning c.args.self.now.book.now in
    let i = c.loop-next.invariant in
    let w : Wired m c.loop-next.self.wires.now = subst (λ (d : Desk g.row.B.Denot). Wired m d.wires.now) (sym i.only) c.requires.wired in
    let e = c.in-Some.e in
    let f : Facing m c.args.g e = subst (λ (o : Option ℕ). IfSome o (λ n. Facing m c.args.g n)) c.in-Some.is i.here in
    left_below c.loop-next.next (link c.loop-next.self.wires.now e) e c.in-Some.is (λ n. Facing m c.args.g n) (w.chains.down c.args.g e f)

pub loop-next-preserved : goal.loop-next-preserved
loop-next-preserved g c =
    let m = g.B.RuleBook.meaning c.args.self.now.book.now in
    let x = c.args.g in
    let i = c.loop-next.invariant in
    let w : Wired m c.loop-next.self.wires.now = subst (λ (d : Desk g.row.B.Denot). Wired m d.wires.now) (sym i.only) c.requires.wired in
    let e = c.in-Some.e in
    let f : Facing m x e = subst (λ (o : Option ℕ). IfSome o (λ n. Facing m x n)) c.in-Some.is i.here in
    let q' = queued c.add.new.self.ends in
    let there : waits q' e ≡ true = c.add.ensures.more e ∙ or_right _ _ (eq-eqb e (at_end (e / 2) (eqb (e % 2) 1)) (sym (number_end e))) in
    let s = c.add.ensures.same in
    record {
      only = ap (λ (d : Desk g.row.B.Denot). record d { line = c.add.new.self }) i.only;
      line = record { places = s.places ∙ i.line.places; marks = s.marks ∙ i.line.marks; size = s.size ∙ i.line.size; rules = s.rules ∙ i.line.rules };
      still = λ n h. c.add.ensures.more n ∙ or_left _ _ (i.still n h);
      no_more = λ n h. elim (or_cases _ _ (sym (c.add.ensures.more n) ∙ h)) [
        | inl t ↦ i.no_more n t
        | inr t ↦ inr (subst (λ (y : ℕ). Facing m x y) (sym (number_end e) ∙ sym (eqb-true n _ t)) f)
      ];
      here = IfSome_then (link c.loop-next.self.wires.now e) (w.chains.down x e f) (λ n t. t.1);
      past = λ n h l. elim (cases_eq n e) [
        | inl q ↦ subst (λ (y : ℕ). waits q' y ≡ true) (sym q) there
        | inr k ↦ elim (cases_lt n e) [
          | inl b ↦ absurd (above_below _ n (w.chains.next x e n f h b) l)
          | inr b ↦ c.add.ensures.more n ∙ or_left _ _ (i.past n h (subst (λ (o : Option ℕ). IfSome o (λ d. d < n)) (sym c.in-Some.is) (omega arith)))
        ]
      ];
    }
