-- A line of rule ends, before and after.
use Rattle.std.specs.Prelude.{◌≡◌}
use Rattle.propagation.specs.Waiting.{size}
use Rattle.propagation.specs.declared.line.Line.{Line}

-- The later line has the places, the marks and the rules of the earlier one.
pub record SameLine (l l' : Line) : Type 0 where
  pub places : l'.ends.places.ghost_name ≡ l.ends.places.ghost_name
  pub marks : l'.marks.ghost_name ≡ l.marks.ghost_name
  pub size : size l'.ends ≡ size l.ends
  pub rules : l'.rules ≡ l.rules
