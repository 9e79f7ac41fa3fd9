use Rattle.std.proofs.Common.{◌++◌, ap, ◌∙◌, append_assoc, string_bytes}
use Rattle.text.proofs.Records.{rows_more}
use Rattle.text.proofs.write.write_rows.Goals as goal

pub loop-channel-preserved : goal.loop-channel-preserved
loop-channel-preserved c =
    let b = c.loop-channel.invariant in
    let w = c.in_ok-write_row.ensures in
    (b.0 ++ w.0, rows_more c.args.body.now 4 c.loop-channel.channel c.row.result b.0 w.0 b.1 c.row.ensures w.1, w.2 ∙ ap (λ xs. xs ++ w.0) b.2 ∙ append_assoc (string_bytes c.args.out.now) b.0 w.0)
