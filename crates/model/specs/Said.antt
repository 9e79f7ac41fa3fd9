-- What a decision of the code says, and the word of an assignment.
use Rattle.std.specs.Prelude.{ℕ, ◌+◌, ◌*◌}
use Rattle.model.specs.Decisions.{Decision, taken, refused}
use Rattle.model.specs.declared.decision.Decision.{Decision as Spoken}
use Rattle.model.specs.declared.decision.Decision.TheVariants.{Taken, Refused}

abbrev pub said : Spoken → Decision
said (Taken w) = taken w
said (Refused w) = refused w

abbrev pub word_of : ℕ → ℕ → ℕ
word_of group channel = 64 * group + channel
