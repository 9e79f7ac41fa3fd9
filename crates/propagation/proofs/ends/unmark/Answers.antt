use Rattle.std.proofs.Common.{◌≡◌, ℕ, ◌-◌, ◌/◌, ◌%◌, ◌≤◌, not, ◌&&◌, eqb, get_or, set, sym, subst, arith}
use Rattle.propagation.specs.Waits.{marked}
use Rattle.rules.proofs.Digits.{shifted, dig_ge, has_dig}
use Rattle.propagation.proofs.Marks.{unmark_has}
use Rattle.propagation.proofs.ends.unmark.Goals as goal

pub overflow_sub-marks : goal.overflow_sub-marks
overflow_sub-marks c =
    let m = get_or c.args.marks.now (c.args.e / 32) 0 in
    let k = c.args.e % 32 in
    subst (λ (x : ℕ). x ≤ m) (sym (shifted 32 k (omega arith))) (dig_ge k m (has_dig m k c.requires.state))

pub returns : goal.returns
returns c =
    let ms = c.args.marks.now in
    let e = c.args.e in
    subst (λ (x : ℕ). (j : ℕ) → marked (set ms (e / 32) (get_or ms (e / 32) 0 - x)) j ≡ (marked ms j && not (eqb j e))) (sym (shifted 32 (e % 32) (omega arith))) (unmark_has ms e (omega arith) c.requires.state)
