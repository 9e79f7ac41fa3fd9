use Rattle.std.proofs.Common.{◌≡◌, ℕ, ◌-◌, ◌^◌, ◌<◌, pow_pos, ap, ◌∙◌, arith}
use lib.Pow.{pow-lt}
use Rattle.rules.specs.Channels.{has}
use Rattle.rules.proofs.Digits.{shifted}
use Rattle.rules.proofs.Rows.{row_has}
use Rattle.rules.proofs.bits.from_on.Goals as goal

pub returns-then-c-lt64 : goal.returns-then-c-lt64
returns-then-c-lt64 c = λ j.
    let n = c.args.c in
    let p = pow_pos n in
    let l : 2 ^ n < 2 ^ 64 = pow-lt c.if-c-lt64.true in
    let e : 18446744073709551615 - (2 ^ n - 1) ≡ 2 ^ 64 - 2 ^ n = omega arith in
    ap (λ (x : ℕ). has (18446744073709551615 - (x - 1)) j) (shifted 64 n c.if-c-lt64.true) ∙ ap (λ (x : ℕ). has x j) e ∙ row_has n 64 j
