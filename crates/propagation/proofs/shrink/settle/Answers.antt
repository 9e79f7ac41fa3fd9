use Rattle.std.proofs.Common.{◌≡◌, ℕ, ◌^◌, ◌<◌, true, sym, refl, subst, inl, inr, arith}
use Rattle.std.proofs.lemmas.Bool.{both_ways, cases_eq}
use Rattle.rules.specs.Channels.{has}
use Rattle.propagation.specs.Waiting.{queued}
use Rattle.rules.proofs.Digits.{has_some, cut_inside, cut_other, cut_stays, has_none}
use Rattle.propagation.proofs.shrink.settle.Goals as goal

pub returns-then-without-eq0 : goal.returns-then-without-eq0
returns-then-without-eq0 c =
    let m = c.args.keeps in
    let fits : m < 2 ^ 64 = omega arith in
    let k = c.lowest-c.result in
    let h = c.lowest-c.ensures.there in
    let q = queued c.args.settled.now in
    let sole : (j : ℕ) → has m j ≡ true → j ≡ k = λ j e. elim (cases_eq j k) [
      | inl z ↦ z
      | inr n ↦ absurd (both_ways (has 0 j) (has_none j) (subst (λ (x : ℕ). has x j ≡ true) c.if-without-eq0.true (cut_stays m k c.without.result c.without.ensures.bits j e n)))
    ] in
    record {
      held = c.push.ensures.held;
      sized = c.push.ensures.sized;
      noting = inr (k, (rw c.unwrap.ensures at c.push.ensures.line).1, (h, sole));
    }

pub returns-else-without-eq0 : goal.returns-else-without-eq0
returns-else-without-eq0 c =
    let m = c.args.keeps in
    let fits : m < 2 ^ 64 = omega arith in
    let k = c.lowest-c.result in
    let h = c.lowest-c.ensures.there in
    let r = c.without.result in
    let b = c.without.ensures.bits in
    let t = has_some r (omega arith) c.if-without-eq0.false in
    record {
      held = refl;
      sized = refl;
      noting = inl (refl, (k, t.0, h, cut_inside m k r b t.0 t.1, λ e. cut_other m k r b t.0 t.1 (sym e)));
    }
