use Rattle.std.proofs.Common.{◌≡◌, true, false, not, refl, rules, tests}
use Rattle.std.proofs.lemmas.Iterator.{YieldsList-from_slice, YieldsList-from_zip, IsFirst-from_position}
use Rattle.rules.specs.Channels.{channel_in}
use Rattle.rules.specs.Checks.{unlisted}
use Rattle.rules.proofs.Firsts.{lowest_in_pairs}
use Rattle.rules.proofs.check.first_unlisted.Goals as goal

pub returns : goal.returns
returns c =
    lowest_in_pairs (λ p. not (channel_in p.0 p.1)) (unlisted c.args.lists.now c.args.plan.now) c.args.lists.now c.args.plan.now c.position.result c.requires (0, 64) (λ k l. refl)
    (IsFirst-from_position c.position.new.self _ _ (λ p. not (channel_in p.0 p.1) ≡ true) (λ p. not (channel_in p.0 p.1) ≡ false) c.position.ensures.ran
    (YieldsList-from_zip (YieldsList-from_slice c.args.lists.now cc) (YieldsList-from_slice c.args.plan.now cc))
    (λ x q k. search (rules, tests)) (λ x q k. (search (rules, tests), search (rules, tests))))
