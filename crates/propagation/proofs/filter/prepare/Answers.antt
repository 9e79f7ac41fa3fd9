use Rattle.std.proofs.Common.{List, ℕ, sym, subst}
use Rattle.model.specs.Remains.{family}
use Rattle.propagation.specs.Supports.{Inside}
use Rattle.propagation.proofs.filter.prepare.Goals as goal

pub returns-then-some_empty-clause-within : goal.returns-then-some_empty-clause-within
returns-then-some_empty-clause-within c = λ k o ins. c.decide_all.ensures.within k o (subst (λ (x : List ℕ). Inside k (family x)) (sym c.copy_from_slice.ensures.after) ins)

pub returns-clause-within : goal.returns-clause-within
returns-clause-within c = λ k o ins. c.decide_all.ensures.within k o (subst (λ (x : List ℕ). Inside k (family x)) (sym c.copy_from_slice.ensures.after) ins)
