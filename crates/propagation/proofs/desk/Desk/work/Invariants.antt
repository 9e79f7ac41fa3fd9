use Rattle.model.specs.Remains.{Family, family}
use Rattle.propagation.specs.Supports.{Inside}
use Rattle.propagation.specs.Desks.{SameDesk, Held}
use Rattle.model.specs.Words.{base_of}
use Rattle.propagation.specs.Calms.{Agrees, Going, weight}
use Rattle.propagation.proofs.desk.Desk.work.Given as goal

abbrev pub invariant-loop : goal.invariant-loop
invariant-loop g l = record {
  same : SameDesk l.initial.self l.self;
  held : Held (g.B.RuleBook.meaning l.initial.self.book.now) l.self;
  going : Going (g.B.RuleBook.meaning l.initial.self.book.now) l.self;
  inside : Inside (family l.self.domains.now) (family l.initial.self.domains.now);
  within : (k : Family) → Agrees (g.B.RuleBook.meaning l.initial.self.book.now) (base_of l.initial.self.base.now) k → Inside k (family l.initial.self.domains.now) → Inside k (family l.self.domains.now);
}

abbrev pub decreases-loop : goal.decreases-loop
decreases-loop g l = weight (g.B.RuleBook.meaning l.initial.self.book.now) l.self
