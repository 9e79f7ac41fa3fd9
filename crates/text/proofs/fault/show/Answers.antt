use Rattle.std.proofs.Common.{◌≡◌, take, sym, ap, ◌∙◌, map-id}
use Rattle.std.proofs.Output.{has_written_of_eq}
use Rattle.std.proofs.lemmas.Iterator.{YieldsList-from_chars, YieldsList-from_take}
use Rattle.std.proofs.lemmas.Iterator.Consumers.{YieldsList-end}
use Rattle.std.specs.Char.{encode_utf8}
use Rattle.std.specs.List.{flat_map}
use Rattle.std.specs.Str.{chars}
use Rattle.text.specs.Accounts.{shown}
use Rattle.text.proofs.fault.show.Goals as goal

pub returns : goal.returns
returns g c = λ p q.
    let end = YieldsList-end (YieldsList-from_take 40 (YieldsList-from_chars c.args.text.now c.utf8.text cc) cc) c.loop-c.yielded _ c.loop-c.yielded_by _ _ c.in-None.is c.next.ensures.steps in
    let all : c.loop-c.yielded ≡ take 40 (chars c.args.text.now) = sym (map-id c.loop-c.yielded) ∙ end.0 in
    has_written_of_eq _ _ _ _ _ (ap (flat_map (λ x. encode_utf8 (shown x))) all) (c.loop-c.invariant p)
