use Rattle.std.proofs.Common.{◌∙◌, ap, drop, map}
use Rattle.text.specs.Lists.{ends, list_said}
use Rattle.text.proofs.Prints.{list_read}
use Rattle.text.proofs.laws.written_lists_are_read.Goals as goal

pub returns : goal.returns
returns c = record {
  spans = list_read;
  sets = λ set bs t. (map ends t.0, ap (λ w. list_said (drop 1 w)) t.3 ∙ list_read t.0, t.1);
}
