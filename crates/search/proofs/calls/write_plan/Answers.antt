use Rattle.std.proofs.Common.{◌≡◌, ℕ, ◌^◌, ◌<◌, ◌≢◌, length, get_or, set, refl, ◌∙◌, rules, arith, get_or-set_other, get_or-set_same, below_more}
use lib.Count.{count_trailing_zeros}
use Rattle.search.proofs.States.{past_set}
use Rattle.search.proofs.calls.write_plan.Goals as goal

pub loop-group-preserved : goal.loop-group-preserved
loop-group-preserved c =
    let xs = c.loop-group.plan in
    let ds = c.args.domains.now in
    let i = c.loop-group.group in
    let n = length ds in
    let v = count_trailing_zeros 64 (get_or ds i 0) in
    let here : i < n = search rules in
    let fits : get_or ds i 0 < 2 ^ 64 = search rules in (
      below_more (λ (g : ℕ). get_or (set xs i v) g 64 ≡ count_trailing_zeros 64 (get_or ds g 0)) i
          (λ g h. let ne : g ≢ i = omega arith in get_or-set_other xs i g v 64 ne ∙ c.loop-group.invariant.0 g h)
          (get_or-set_same xs i v 64 (omega arith)),
      below_more (λ (g : ℕ). get_or ds g 0 < 2 ^ 64) i c.loop-group.invariant.1 fits,
      past_set n i v xs (set xs i v) here refl ∙ c.loop-group.invariant.2,
    )
