use Rattle.std.proofs.Common.{rules, refl, ◌∙◌, ap}
use Rattle.text.specs.declared.line.Keyword as keys
use Rattle.text.specs.Lines.{group, gap, table, row, group_told}
use Rattle.text.proofs.Says.{line_is}
use Rattle.text.proofs.line.read_line.Goals as goal

pub returns-in_err-lone_list-in-Group : goal.returns-in_err-lone_list-in-Group
returns-in_err-lone_list-in-Group c =
    let t = line_is c.args.text.now c.without_comment-said.result.now c.cut.result.0.now keys.TheVariants.Group c.without_comment-said.ensures c.cut.ensures.word c.in-Group.ensures in
    let none = t ∙ ap group_told (rw c.cut.ensures.rest at c.in_err-lone_list-in-Group.ensures) in
    search rules

pub returns-in_ok-lone_list-in-Group : goal.returns-in_ok-lone_list-in-Group
returns-in_ok-lone_list-in-Group c =
    let t = line_is c.args.text.now c.without_comment-said.result.now c.cut.result.0.now keys.TheVariants.Group c.without_comment-said.ensures c.cut.ensures.word c.in-Group.ensures in
    let set = rw c.cut.ensures.rest at c.in_ok-lone_list-in-Group.ensures in
    (group set.0, t ∙ ap group_told set.1, (c.in_ok-lone_list-in-Group.field-0, refl, (set.0, refl, set.2)))

pub returns-in_ok-read_gap-in-Gap : goal.returns-in_ok-read_gap-in-Gap
returns-in_ok-read_gap-in-Gap c =
    let t = line_is c.args.text.now c.without_comment-said.result.now c.cut.result.0.now keys.TheVariants.Gap c.without_comment-said.ensures c.cut.ensures.word c.in-Gap.ensures in
    let e = c.in_ok-read_gap-in-Gap.field-0 in
    (gap e.first e.second e.gap, t ∙ (rw c.cut.ensures.rest at c.in_ok-read_gap-in-Gap.ensures), refl)

pub returns-in_ok-first-in-Table : goal.returns-in_ok-first-in-Table
returns-in_ok-first-in-Table c =
    let t = line_is c.args.text.now c.without_comment-said.result.now c.cut.result.0.now keys.TheVariants.Table c.without_comment-said.ensures c.cut.ensures.word c.in-Table.ensures in
    (table c.in_ok-first-in-Table.first c.in_ok-first-in-Table.second, t ∙ (rw c.cut.ensures.rest at c.in_ok-first-in-Table.ensures), refl)

pub returns-in_ok-channel-in-Other : goal.returns-in_ok-channel-in-Other
returns-in_ok-channel-in-Other c =
    let t = line_is c.args.text.now c.without_comment-said.result.now c.cut.result.0.now keys.TheVariants.Other c.without_comment-said.ensures c.cut.ensures.word c.in-Other.ensures in
    let r = c.in_ok-channel-in-Other.ensures in
    (row c.in_ok-channel-in-Other.channel r.0, t ∙ r.1, (c.in_ok-channel-in-Other.list, refl, r.2))
