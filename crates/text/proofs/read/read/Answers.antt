use Rattle.std.proofs.Common.{◌≡◌, true, false, Some, None, refl}
use Rattle.std.specs.Option.{option_copied}
use Rattle.text.specs.Words.{has_byte, behind}
use Rattle.text.specs.Drafts.{made, lines}
use Rattle.text.proofs.Building.{Reads, cut_left, copied_match, reads_more, reads_stuck, reads_all}
use Rattle.text.proofs.Soundness.{built_flawless}
use Rattle.text.proofs.read.read.Goals as goal

pub returns-in-Err-clause-stuck : goal.returns-in-Err-clause-stuck
returns-in-Err-clause-stuck c =
    let t = c.in-Some.text.now in
    let more = copied_match c.cut_line.result.1 (has_byte 10 t ≡ false) (λ r. (has_byte 10 t ≡ true) × (r ≡ behind 10 t)) c.cut_line.ensures.rest in
    let cut = cut_left t c.cut_line.result.0.now (option_copied c.cut_line.result.1) c.cut_line.ensures.line more in
    let before : Reads c.args.text.now (Some t) c.loop-rest.line (made c.loop-rest.draft) = rw c.in-Some.is at c.loop-rest.invariant in
    (c.loop-rest.line, refl, reads_stuck c.args.text.now t c.cut_line.result.0.now (option_copied c.cut_line.result.1) c.loop-rest.line (made c.loop-rest.draft) c.in-Err.wrong before cut.0 c.in-Err.ensures)

pub loop-rest-preserved : goal.loop-rest-preserved
loop-rest-preserved c =
    let t = c.in-Some.text.now in
    let more = copied_match c.cut_line.result.1 (has_byte 10 t ≡ false) (λ r. (has_byte 10 t ≡ true) × (r ≡ behind 10 t)) c.cut_line.ensures.rest in
    let cut = cut_left t c.cut_line.result.0.now (option_copied c.cut_line.result.1) c.cut_line.ensures.line more in
    let before : Reads c.args.text.now (Some t) c.loop-rest.line (made c.loop-rest.draft) = rw c.in-Some.is at c.loop-rest.invariant in
    reads_more c.args.text.now t c.cut_line.result.0.now (option_copied c.cut_line.result.1) c.loop-rest.line (made c.loop-rest.draft) (made c.add_line.new.draft) before cut c.in_default-add_line.ensures

pub returns-clause-takes : goal.returns-clause-takes
returns-clause-takes c =
    let whole : Reads c.args.text.now None c.loop-rest.line (made c.loop-rest.draft) = rw c.in_default.is at c.loop-rest.invariant in
    built_flawless (lines c.args.text.now) (made c.loop-rest.draft) (reads_all c.args.text.now c.loop-rest.line (made c.loop-rest.draft) whole)
