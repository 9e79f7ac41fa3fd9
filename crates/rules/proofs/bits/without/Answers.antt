use Rattle.std.proofs.Common.{◌≡◌, ℕ, ◌-◌, ◌≤◌, true, not, ◌&&◌, eqb, ltb, sym, subst, arith, pow_pos}
use Rattle.std.proofs.lemmas.Bool.{and_parts}
use Rattle.rules.proofs.Digits.{shifted, dig_ge, has_dig, minus_has}
use Rattle.rules.specs.Channels.{has}
use Rattle.rules.proofs.bits.without.Goals as goal

pub overflow_sub-result : goal.overflow_sub-result
overflow_sub-result c =
    let m = c.args.set in
    let here : has m c.args.c ≡ true = (and_parts (ltb c.args.c 64) (has m c.args.c) (sym c.if-has_channel.ensures)).1 in
    subst (λ (x : ℕ). x ≤ m) (sym (shifted 64 c.args.c c.requires)) (dig_ge c.args.c m (has_dig m c.args.c here))

pub returns-then-has_channel : goal.returns-then-has_channel
returns-then-has_channel c =
    let m = c.args.set in
    let here : has m c.args.c ≡ true = (and_parts (ltb c.args.c 64) (has m c.args.c) (sym c.if-has_channel.ensures)).1 in
    record {
      less = omega arith;
      fewer = λ _. (let p = pow_pos c.args.c in let q = shifted 64 c.args.c c.requires in let r = dig_ge c.args.c m (has_dig m c.args.c here) in omega arith);
      bits = subst (λ (x : ℕ). (j : ℕ) → has (m - x) j ≡ (has m j && not (eqb j c.args.c))) (sym (shifted 64 c.args.c c.requires)) (minus_has m c.args.c here);
    }
