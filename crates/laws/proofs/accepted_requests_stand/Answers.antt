use Rattle.std.proofs.Common.{inl, inr}
use Rattle.laws.proofs.Refusals.{sitting_stands, restart_stands}
use Rattle.laws.proofs.accepted_requests_stand.Goals as goal

pub returns : goal.returns
returns c q closings restarts e = elim e [ inl h ↦ sitting_stands q closings restarts h | inr h ↦ restart_stands q closings restarts h ]
