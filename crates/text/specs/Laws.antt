-- What stands above the reader and the writer. Assumes nothing.
use Rattle.std.specs.Prelude.{◌≡◌, ℕ, List, map, drop, Ok}
use Rattle.text.specs.declared.span.Span.{Span}
use Rattle.text.specs.Lists.{ends, list_said, IsSet, list_text}
use Rattle.text.specs.Texts.{ListText}

pub record ReadsBack : Type 0 where
  -- spans that are written say themselves
  pub spans : (ss : List Span) → list_said (drop 1 (list_text ss)) ≡ Ok (map ends ss)
  -- the text that is written for a set says the set
  pub sets : (set : ℕ) (bs : List ℕ) → ListText set bs → IsSet (list_said (drop 1 bs)) set
