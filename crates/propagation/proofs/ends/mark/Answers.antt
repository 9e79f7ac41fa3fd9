use Rattle.std.proofs.Common.{◌≡◌, ℕ, ◌+◌, ◌/◌, ◌%◌, ◌^◌, ◌<◌, ◌||◌, eqb, get_or, set, sym, subst, arith}
use Rattle.propagation.specs.Waits.{marked}
use Rattle.rules.proofs.Digits.{shifted, plus_fits, lacks_dig}
use Rattle.propagation.proofs.Marks.{mark_has}
use Rattle.propagation.proofs.ends.mark.Goals as goal

pub overflow_add-marks : goal.overflow_add-marks
overflow_add-marks c =
    let m = get_or c.args.marks.now (c.args.e / 32) 0 in
    let k = c.args.e % 32 in
    let fits : m < 2 ^ 32 = omega arith in
    let p : m + 2 ^ k < 2 ^ 32 = plus_fits k 32 m (lacks_dig m k c.requires.state) fits (omega arith) in
    omega (arith, shifted 32 k (omega arith), p)

pub returns : goal.returns
returns c =
    let ms = c.args.marks.now in
    let e = c.args.e in
    subst (λ (x : ℕ). (j : ℕ) → marked (set ms (e / 32) (get_or ms (e / 32) 0 + x)) j ≡ (marked ms j || eqb j e)) (sym (shifted 32 (e % 32) (omega arith))) (mark_has ms e (omega arith) c.requires.state)
