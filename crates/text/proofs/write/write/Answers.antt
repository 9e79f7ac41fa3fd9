use Rattle.std.proofs.Common.{ℕ, List, ◌++◌, subst, sym, ap, ◌∙◌}
use Rattle.text.specs.Texts.{JobText}
use Rattle.text.proofs.write.write.Goals as goal

pub returns : goal.returns
returns c =
    let w = c.in_ok-write_records.ensures in
    subst (λ (bs : List ℕ). JobText c.args.job.now bs) (sym (w.2 ∙ ap (λ xs. xs ++ w.0) c.new-out.ensures.bytes)) w.1
