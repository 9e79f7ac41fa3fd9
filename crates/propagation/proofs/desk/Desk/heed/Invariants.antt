use Rattle.std.proofs.Common.{ℕ, ◌<◌, length, IfSome}
use Rattle.std.specs.List.{AllByRecursion}
use Rattle.propagation.specs.Waiting.{queued}
use Rattle.model.specs.Remains.{Family, family, Heeds}
use Rattle.model.specs.Words.{base_of}
use Rattle.propagation.specs.Supports.{Inside}
use Rattle.propagation.specs.Desks.{SameDesk, Held, Step}
use Rattle.propagation.specs.Bases.{Good, Spared}
use Rattle.propagation.specs.Chains.{Below}
use Rattle.propagation.specs.Indexed.{Stands, At}
use Rattle.propagation.proofs.Chaining.{left}
use Rattle.propagation.proofs.desk.Desk.heed.Given as goal

abbrev pub invariant-loop-next : goal.invariant-loop-next
invariant-loop-next g l = record {
  same : SameDesk l.initial.self l.self;
  held : Held (g.B.RuleBook.meaning l.initial.self.book.now) l.self;
  step : Step (g.B.RuleBook.meaning l.initial.self.book.now) l.initial.self l.self;
  within : (k : Family) → AllByRecursion (Heeds k) (base_of l.initial.self.base.now) → Inside k (family l.initial.self.domains.now) → Inside k (family l.self.domains.now);
  here : IfSome l.next (Below (At (base_of l.initial.self.base.now)) (length l.initial.self.base.now) l.v);
  past : (s p : ℕ) (t : Stands (base_of l.initial.self.base.now) s l.v p) → IfSome l.next (λ e. e < p) → Good l.self.domains.now (queued l.self.settled) t.nogood;
  others : AllByRecursion (λ n. Spared l.v n → Good l.self.domains.now (queued l.self.settled) n) (base_of l.initial.self.base.now);
}

abbrev pub decreases-loop-next : goal.decreases-loop-next
decreases-loop-next g l = left l.next
