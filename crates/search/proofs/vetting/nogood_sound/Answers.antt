use Rattle.std.proofs.Common.{rules}
use Rattle.search.proofs.Vets.{nogood_taken, nogood_empty, nogood_refused}
use Rattle.search.proofs.vetting.nogood_sound.Goals as goal
use Rattle.search.proofs.vetting.nogood_sound.Goals.{then-not-is_empty, else-not-is_empty}

pub returns-then-all_taken : goal.returns-then-all_taken
returns-then-all_taken c =
    elim c.if-not-is_empty.branch [
      | then-not-is_empty w ↦ search (rules, nogood_taken)
      | else-not-is_empty w ↦ search rules
    ]

pub returns-else-all_taken : goal.returns-else-all_taken
returns-else-all_taken c =
    elim c.if-not-is_empty.branch [
      | then-not-is_empty w ↦ search (rules, nogood_refused)
      | else-not-is_empty w ↦ search (rules, nogood_empty)
    ]
