use Rattle.std.proofs.Common.{◌≡◌, ℕ, ◌-◌, Bool, ◌&&◌, ltb, min, ap, ◌∙◌, arith}
use Rattle.rules.specs.Channels.{has}
use Rattle.std.proofs.Math.Dec.{leb-zero}
use Rattle.rules.proofs.Digits.{shifted}
use Rattle.rules.proofs.Rows.{row_has}
use Rattle.rules.proofs.bits.below.Goals as goal

pub returns-then-c-lt64 : goal.returns-then-c-lt64
returns-then-c-lt64 c = λ j.
    let n = c.args.c in
    let e : n ≡ min n 64 = omega (arith, c.if-c-lt64.true) in
    ap (λ (x : ℕ). has (x - 1) j) (shifted 64 n c.if-c-lt64.true) ∙ row_has 0 n j ∙ ap (λ (x : Bool). x && ltb j n) (leb-zero j) ∙ ap (λ (x : ℕ). ltb j x) e

pub returns-else-c-lt64 : goal.returns-else-c-lt64
returns-else-c-lt64 c = λ j.
    let n = c.args.c in
    let e : 64 ≡ min n 64 = omega (arith, c.if-c-lt64.false) in
    row_has 0 64 j ∙ ap (λ (x : Bool). x && ltb j 64) (leb-zero j) ∙ ap (λ (x : ℕ). ltb j x) e
