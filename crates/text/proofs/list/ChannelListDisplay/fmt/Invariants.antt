use Rattle.std.proofs.Common.{◌∷◌, take}
use Rattle.std.specs.Fmt.{HasWritten, IsPlainFormatter}
use Rattle.std.specs.List.{flat_map}
use Rattle.text.specs.Lists.{ends, span_text}
use Rattle.text.proofs.list.ChannelListDisplay.fmt.Given as goal

-- the spans that were passed are written
abbrev pub invariant-loop-span : goal.invariant-loop-span
invariant-loop-span g l = IsPlainFormatter l.initial.f → HasWritten g.W.Write.write_str_gives l.initial.f (flat_map (λ t. 44 ∷ span_text (ends t)) (take l.span-index l.rest)) l.f
