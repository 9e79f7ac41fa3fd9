use Rattle.std.proofs.Common.{◌^◌, ◌<◌, arith}
use lib.Count.{count_trailing_zeros}
use Rattle.rules.proofs.Digits.{trailing_has, has_below, has_dig}
use Rattle.rules.proofs.Rows.{trailing_least}
use Rattle.rules.proofs.bits.lowest.Goals as goal

pub returns : goal.returns
returns c =
    let m = c.args.set in
    let fits : m < 2 ^ 64 = omega arith in
    let t = trailing_has m c.requires fits in
    record { small = has_below m (count_trailing_zeros 64 m) fits t; there = t; least = λ j h. trailing_least 64 m j (has_dig m j h) }
