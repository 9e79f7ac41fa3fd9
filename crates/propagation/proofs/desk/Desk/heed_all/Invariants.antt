use Rattle.std.proofs.Common.{◌≡◌, ℕ, List, ◌++◌}
use Rattle.std.specs.List.{AllByRecursion}
use Rattle.propagation.specs.Waiting.{queued}
use Rattle.model.specs.Remains.{Family, family, Heeds}
use Rattle.propagation.specs.Supports.{Inside}
use Rattle.propagation.specs.Desks.{SameDesk, Held, Step}
use Rattle.model.specs.Words.{base_of}
use Rattle.propagation.specs.Bases.{Good}
use Rattle.propagation.proofs.desk.Desk.heed_all.Given as goal

abbrev pub invariant-loop-nogood : goal.invariant-loop-nogood
invariant-loop-nogood g l = record {
  can : (goal.iterator-loop-nogood g).can_next l.nogood-iterator;
  ends : (goal.iterator-loop-nogood g).is_finite l.nogood-iterator;
  same : SameDesk l.initial.self l.self;
  held : Held (g.B.RuleBook.meaning l.initial.self.book.now) l.self;
  step : Step (g.B.RuleBook.meaning l.initial.self.book.now) l.initial.self l.self;
  within : (k : Family) → AllByRecursion (Heeds k) (base_of l.initial.self.base.now) → Inside k (family l.initial.self.domains.now) → Inside k (family l.self.domains.now);
  done : (done : List (List ℕ)) × (base_of l.initial.self.base.now ≡ done ++ base_of l.nogood-iterator.0.now) × AllByRecursion (Good l.self.domains.now (queued l.self.settled)) done;
}
