-- How a fault is told. Assumes nothing.
use Rattle.std.specs.Prelude.{ℕ, cond, List, ◌++◌, length, take, codes, decimal, ◌==◌}
use Rattle.std.specs.List.{flat_map}
use Rattle.std.specs.Char.{encode_utf8, is_control}
use Rattle.std.specs.Str.{chars}
use Rattle.jobs.specs.Numbers.{numbered}
use Rattle.text.specs.declared.fault.Expected.{Expected}
use Rattle.text.specs.declared.fault.Expected.TheVariants.{Item, Group, Distance, Channel, RisingRange, End}
use Rattle.text.specs.declared.fault.Lack.{Lack}
use Rattle.text.specs.declared.fault.Wrong.{Wrong}
use Rattle.text.specs.declared.fault.Wrong.TheVariants.{Lacks, NoTable, SecondRow, NotText, TooMany, NoMemory}
use Rattle.text.specs.declared.fault.TextFault.{TextFault}
use Rattle.text.specs.declared.write.WriteFault.{WriteFault}
use Rattle.text.specs.declared.write.WriteFault.TheVariants.{Refused, NoMemory as Unwritten}

abbrev pub expected_text : Expected → List ℕ
expected_text Item = codes "`group`, `gap`, `table` or a row"
expected_text Group = codes "a group from 0 to 65535"
expected_text Distance = codes "a distance from 0 to 255"
expected_text Channel = codes "a channel from 0 to 63"
expected_text RisingRange = codes "a range that does not go down"
expected_text End = codes "the end of the line"

-- a character as it is shown: a question mark (63) for one that controls
abbrev pub shown : ℕ → ℕ
shown c = cond (is_control c) 63 c

-- the first 40 characters of a text
abbrev pub shown_text : List ℕ → List ℕ
shown_text bs = flat_map (λ c. encode_utf8 (shown c)) (take 40 (chars bs))

abbrev pub found_text : List ℕ → List ℕ
found_text bs = cond (length bs == 0) (codes "nothing") (codes "`" ++ (shown_text bs ++ codes "`"))

abbrev pub lack_text : Lack → List ℕ
lack_text l = codes "expected " ++ (expected_text l.expected ++ (codes ", found " ++ found_text l.found.now))

abbrev pub wrong_text : Wrong → List ℕ
wrong_text (Lacks l) = lack_text l
wrong_text NoTable = codes "expected a table before this row"
wrong_text (SecondRow c) = codes "expected each row once, found row " ++ (decimal c ++ codes " again")
wrong_text NotText = codes "expected text in UTF-8"
wrong_text TooMany = codes "expected no more than 65535 items"
wrong_text NoMemory = codes "no memory"

abbrev pub text_fault_text : TextFault → List ℕ
text_fault_text f = codes "line " ++ (decimal f.line ++ (codes ": " ++ wrong_text f.wrong))

abbrev pub write_fault_text : WriteFault → List ℕ
write_fault_text (Refused f) = codes "refused " ++ (decimal (numbered f.fault) ++ (codes " at " ++ decimal f.offset))
write_fault_text Unwritten = codes "no memory"
