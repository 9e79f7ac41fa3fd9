use Rattle.laws.specs.Orders.{behaviour, cutoffs}
use Rattle.laws.specs.Runs.{standing}
use Rattle.laws.proofs.Orders.{behaves, cuts_off}
use Rattle.laws.proofs.Refusals.{sitting_stands}
use Rattle.laws.proofs.Runs.{sitting_continues}
use Rattle.laws.proofs.any_make_carries_on.Goals as goal

pub returns : goal.returns
returns g c h p book lawful q same e closings restarts =
    let o = g.O.Order.meaning in
    let m = g.P.RestartPolicy.meaning in
    sitting_continues q.lists book lawful (behaviour o h) (behaves o g.met.O.Order.lawful h) (cutoffs m p) (cuts_off m g.met.P.RestartPolicy.lawful p)
    (standing q closings restarts) q (sitting_stands q closings restarts e) same e
