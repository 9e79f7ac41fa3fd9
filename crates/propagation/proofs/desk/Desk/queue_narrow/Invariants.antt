use Rattle.std.proofs.Common.{◌≡◌, ℕ, ◌<◌, get_or}
use Rattle.propagation.specs.Waiting.{queued}
use Rattle.propagation.specs.Lines.{SameLine}
use Rattle.propagation.specs.Supports.{Served}
use Rattle.propagation.proofs.desk.Desk.queue_narrow.Given as goal

abbrev pub invariant-loop-g : goal.invariant-loop-g
invariant-loop-g g l = record {
  only : l.self ≡ record l.initial.self { line = l.self.line };
  line : SameLine l.initial.self.line l.self.line;
  served : (h i : ℕ) → h < l.g → Served (g.B.RuleBook.meaning l.initial.self.book.now) h (get_or l.initial.self.domains.now h 0) i (queued l.self.line.ends);
}
