use Rattle.std.proofs.Common.{◌≡◌, ℕ, ◌<◌, Some}
use Rattle.search.specs.Families.{place, kept}
use Rattle.search.proofs.befores.Befores.forget.Given as goal

abbrev pub invariant-loop-g : goal.invariant-loop-g
invariant-loop-g l = record {
  sound : (g q : ℕ) → place l.self g ≡ Some q → place l.initial.self g ≡ Some q;
  fewer : (g q : ℕ) → g < l.g → place l.self g ≡ Some q → q < l.from;
  kept : (n g : ℕ) → kept n l.self g ≡ kept n l.initial.self g;
  ready : l.self.ready ≡ l.initial.self.ready;
}
