-- What a line says, from what its parts say.
use Rattle.std.proofs.Common.{◌≡◌, ℕ, ◌<◌, ◌==◌, true, List, length, refl, ◌∙◌, ap, arith, nat_lt}
use Rattle.std.proofs.lemmas.Bool.Decides.{nat_tests}
use Rattle.std.specs.List.{position_or_len}
use Rattle.std.specs.Str.{trim}
use Rattle.text.specs.declared.line.Keyword as keys
use Rattle.text.specs.Words.{word, channel_said, before, behind, said, has_byte}
use Rattle.text.specs.Lines.{keyword, lone_said, row_of, row_told, item_told, told}

has_it : (n m : ℕ) → n < m → nat_lt n m ≡ true
has_it n m h = grind (arith, nat_tests)

-- a row, from its parts
pub row_is : (bs front list t : List ℕ) → position_or_len (λ b. b == 58) bs < length bs → front ≡ before 58 bs → list ≡ behind 58 bs → t ≡ trim list → row_told bs ≡ row_of (channel_said front) (lone_said t)
row_is bs front list t h f l e =
    let has : has_byte 58 bs ≡ true = has_it _ _ h in
    let same : t ≡ trim (behind 58 bs) = e ∙ ap trim l in
    rw (has, f, same) refl

-- a line, from its keyword
pub line_is : (bs s w : List ℕ) (k : keys.Keyword) → s ≡ said bs → w ≡ word s → k ≡ keyword w → told bs ≡ item_told k s
line_is bs s w k e f h = rw (h, f, e) refl
