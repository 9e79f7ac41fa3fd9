use Rattle.std.proofs.Common.{◌≡◌, ℕ, ◌<◌, true, ◌⊎◌, IfSome}
use Rattle.propagation.specs.Waiting.{queued}
use Rattle.propagation.specs.Waits.{waits}
use Rattle.propagation.specs.Lines.{SameLine}
use Rattle.propagation.specs.Supports.{Still}
use Rattle.propagation.specs.Wires.{Facing}
use Rattle.propagation.proofs.Chaining.{left}
use Rattle.propagation.proofs.desk.Desk.queue_across.Given as goal

abbrev pub invariant-loop-next : goal.invariant-loop-next
invariant-loop-next g l = record {
  only : l.self ≡ record l.initial.self { line = l.self.line };
  line : SameLine l.initial.self.line l.self.line;
  still : Still (queued l.initial.self.line.ends) (queued l.self.line.ends);
  no_more : (n : ℕ) → waits (queued l.self.line.ends) n ≡ true → (waits (queued l.initial.self.line.ends) n ≡ true) ⊎ Facing (g.B.RuleBook.meaning l.initial.self.book.now) l.g n;
  here : IfSome l.next (λ e. Facing (g.B.RuleBook.meaning l.initial.self.book.now) l.g e);
  past : (n : ℕ) → Facing (g.B.RuleBook.meaning l.initial.self.book.now) l.g n → IfSome l.next (λ e. e < n) → waits (queued l.self.line.ends) n ≡ true;
}

abbrev pub decreases-loop-next : goal.decreases-loop-next
decreases-loop-next g l = left l.next
