-- The chains of a book and the index of a base.
use Rattle.std.specs.Prelude.{ℕ, List}
use Rattle.rules.specs.Meanings.{Meaning}
use Rattle.propagation.specs.declared.links.Links.{Links}
use Rattle.propagation.specs.Wires.{Wired}
use Rattle.propagation.specs.Spreads.{Spreads}
use Rattle.propagation.specs.Indexed.{Knows}

-- They are those of this book and of a base of these words.
pub record Linked (m : Meaning) (words : List ℕ) (l : Links) : Type 0 where
  pub wired : Wired m l.wires
  pub spread : Spreads m l.spreads
  pub known : Knows words l.index
