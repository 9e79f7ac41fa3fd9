use Rattle.std.proofs.Common.{Ok, rules, arith, ◌∙◌, ap, refl}
use Rattle.std.proofs.lemmas.Str.Pattern.{split_once_first}
use Rattle.text.specs.Lines.{lone_said, row_of}
use Rattle.text.proofs.Says.{row_is}
use Rattle.text.proofs.line.read_row.Goals as goal

pub returns-in_err-lone_list : goal.returns-in_err-lone_list
returns-in_err-lone_list c =
    let parts = rw c.in-Some.is at (split_once_first 58 c.args.text.now _ c.split_once.ensures.cases (omega arith)) in
    let row = row_is c.args.text.now c.in-Some.front.now c.in-Some.list.now c.trim.result.now parts.0 parts.1 parts.2 c.trim.ensures.trim in
    let said = row ∙ ap (λ o. row_of o (lone_said c.trim.result.now)) c.in_ok-channel.ensures.said ∙ ap (row_of (Ok c.in_ok-channel.channel)) c.in_err-lone_list.ensures in
    search rules

pub returns : goal.returns
returns c =
    let parts = rw c.in-Some.is at (split_once_first 58 c.args.text.now _ c.split_once.ensures.cases (omega arith)) in
    let row = row_is c.args.text.now c.in-Some.front.now c.in-Some.list.now c.trim.result.now parts.0 parts.1 parts.2 c.trim.ensures.trim in
    let set = c.in_ok-lone_list.ensures in
    (set.0, row ∙ ap (λ o. row_of o (lone_said c.trim.result.now)) c.in_ok-channel.ensures.said ∙ ap (row_of (Ok c.in_ok-channel.channel)) set.1, (set.0, refl, set.2))
