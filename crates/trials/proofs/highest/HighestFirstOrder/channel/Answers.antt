use Rattle.std.proofs.Common.{◌≡◌, get_or, ap, ◌∙◌}
use Rattle.trials.specs.Highest.{top}
use Rattle.trials.specs.Tops.{top_between}
use Rattle.trials.proofs.highest.HighestFirstOrder.channel.Goals as goal

pub returns-clause-answer : goal.returns-clause-answer
returns-clause-answer c =
    let m = c.in_ok-channels.field-0.now in
    let is : m ≡ get_or c.args.domains.now c.args.group 0 = c.in_ok-channels.ensures.lookup.3.1 0 ∙ ap (λ g. get_or c.args.domains.now g 0) c.from.ensures in
    top_between m c.in_ok-highest.highest c.in_ok-highest.ensures.power_le c.in_ok-highest.ensures.next_power_gt ∙ ap top is
