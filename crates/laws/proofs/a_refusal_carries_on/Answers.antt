use Rattle.laws.proofs.Runs.{refused_sitting_continues, refused_restart_continues}
use Rattle.laws.proofs.a_refusal_carries_on.Goals as goal

pub returns : goal.returns
returns c lists book lawful s q f number place =
    (refused_sitting_continues lists book lawful s q f number place, refused_restart_continues lists book lawful s q f number place)
