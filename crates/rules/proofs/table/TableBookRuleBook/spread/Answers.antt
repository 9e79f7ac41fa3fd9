use Rattle.std.proofs.Common.{◌≡◌, true, is_some, rules, tests}
use Rattle.rules.specs.Tables.{tables}
use Rattle.rules.proofs.Tabled.{rows_spread, columns_spread}
use Rattle.rules.proofs.table.TableBookRuleBook.spread.Goals as goal

pub returns-then-second : goal.returns-then-second
returns-then-second c =
    let n = c.args.self.now.groups in
    let bs = c.args.self.now.job.now in
    let es = c.args.self.now.entries.now in
    let bound : is_some ((tables n bs es).ends c.args.i) ≡ true = search (rules, tests) in
    rw c.if-second.true (columns_spread n bs es c.args.i bound c.widest_in_columns.result c.widest_in_columns.ensures)

pub returns-else-second : goal.returns-else-second
returns-else-second c =
    let n = c.args.self.now.groups in
    let bs = c.args.self.now.job.now in
    let es = c.args.self.now.entries.now in
    let bound : is_some ((tables n bs es).ends c.args.i) ≡ true = search (rules, tests) in
    rw c.if-second.false (rows_spread n bs es c.args.i bound c.widest_in_rows.result c.widest_in_rows.ensures)
