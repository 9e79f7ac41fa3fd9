use Rattle.std.specs.Option.{option_copied}
use Rattle.text.specs.Drafts.{made}
use Rattle.text.proofs.Building.{Reads, bytes_left}
use Rattle.text.proofs.read.read.Given as goal

abbrev pub invariant-loop-rest : goal.invariant-loop-rest
invariant-loop-rest l = Reads l.fn.text (option_copied l.rest) l.line (made l.draft)

abbrev pub decreases-loop-rest : goal.decreases-loop-rest
decreases-loop-rest l = bytes_left (option_copied l.rest)
