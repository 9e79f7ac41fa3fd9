use Rattle.std.proofs.Common.{ℕ, ◌+◌, ◌++◌, subst, sym, ap, ◌∙◌, append_assoc, append-nil, string_bytes, arith}
use Rattle.text.proofs.Records.{Written, fits, some_bytes, written_none, written_more, written_all}
use Rattle.text.proofs.write.write_records.Goals as goal

pub overflow_add-at : goal.overflow_add-at
overflow_add-at c =
    let f = fits c.args.job.now c.loop-record.at c.in-Some.record c.in-Some.ensures.0 c.in-Some.ensures.1 in
    omega (arith, f, c.size-at.ensures)

pub loop-record-init : goal.loop-record-init
loop-record-init c = (_, written_none c.args.job.now, sym (append-nil (string_bytes c.args.out.now)))

pub loop-record-smaller : goal.loop-record-smaller
loop-record-smaller c =
    let f = fits c.args.job.now c.loop-record.at c.in-Some.record c.in-Some.ensures.0 c.in-Some.ensures.1 in
    omega (arith, f, c.size-at.ensures, some_bytes c.in-Some.record)

pub loop-record-preserved : goal.loop-record-preserved
loop-record-preserved c =
    let b = c.loop-record.invariant in
    let w = c.in_ok-write_record.ensures in
    let next = written_more c.args.job.now c.loop-record.at b.0 w.0 c.in-Some.record b.1 c.in-Some.ensures.1 c.in-Some.ensures.3 w.1 in
    (b.0 ++ w.0, subst (λ (n : ℕ). Written c.args.job.now (c.loop-record.at + n) (b.0 ++ w.0)) (sym c.size-at.ensures) next, w.2 ∙ ap (λ xs. xs ++ w.0) b.2 ∙ append_assoc (string_bytes c.args.out.now) b.0 w.0)

pub returns : goal.returns
returns c =
    let b = c.loop-record.invariant in
    (b.0, written_all c.args.job.now c.requires.0 c.loop-record.at b.0 c.requires.1 b.1 c.in_default.ensures, b.2)
