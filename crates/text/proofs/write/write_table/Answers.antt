use Rattle.std.proofs.Common.{◌++◌, ap, ◌∙◌, refl, append_assoc, string_bytes}
use Rattle.text.specs.Texts.{head_text}
use Rattle.text.proofs.write.write_table.Goals as goal

pub returns : goal.returns
returns c =
    let w = c.in_ok-write_rows.ensures in
    (head_text c.args.body.now ++ w.0, (w.0, w.1, refl), w.2 ∙ ap (λ xs. xs ++ w.0) c.in_ok-write_head.ensures ∙ append_assoc (string_bytes c.args.out.now) (head_text c.args.body.now) w.0)
