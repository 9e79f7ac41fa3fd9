use Rattle.std.proofs.Common.{arith}
use Rattle.std.proofs.lemmas.Str.Parse.{parse_plain}
use Rattle.std.proofs.lemmas.Str.Pattern.{starts_char}
use Rattle.text.proofs.Numbers.{own, number_from, unless}
use Rattle.text.proofs.word.number.Goals as goal

-- a word with no plus in front says what `parse` reads
pub returns : goal.returns
returns c =
    let s = c.args.word.now in
    let plain = unless _ _ (starts_char 43 s _ c.starts_with.ensures.cases (omega arith) (omega arith)) c.if-starts_with.false in
    rw c.ok.ensures.value (number_from 65536 s _ (parse_plain own 16 s _ c.parse.ensures.value.0 plain))
