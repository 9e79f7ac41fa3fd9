use Rattle.std.proofs.Common.{◌≡◌, ℕ, ◌*◌, ◌≤◌, length, refl, ap, arith, rules}
use Rattle.propagation.proofs.Fronts.{past_part, past_part_at}
use Rattle.propagation.proofs.filter.propagate.Goals as goal

pub returns-in_err-filter-clause-beyond : goal.returns-in_err-filter-clause-beyond
returns-in_err-filter-clause-beyond g c =
    let k = 2 * c.count.result in
    let m = 2 * (g.B.RuleBook.meaning c.args.book.now).count in
    let same : k ≡ m = ap (λ (x : ℕ). 2 * x) c.count.ensures in
    let b = c.args.bench.now in
    let r = c.requires.roomy in
    record {
      domains = refl;
      marks = search (rules, past_part b.marks.now);
      ends = let h : k ≤ length b.ends.now = omega (arith, r.ends, same) in search (rules, past_part_at b.ends.now);
      settled = search (rules, past_part b.settled.now);
    }

pub returns-clause-beyond : goal.returns-clause-beyond
returns-clause-beyond g c =
    let n = length c.args.lists.now in
    let k = 2 * c.count.result in
    let m = 2 * (g.B.RuleBook.meaning c.args.book.now).count in
    let same : k ≡ m = ap (λ (x : ℕ). 2 * x) c.count.ensures in
    let b = c.args.bench.now in
    let r = c.requires.roomy in
    record {
      domains = past_part b.domains.now c.write.new.to n r.domains c.write.auto.to;
      marks = search (rules, past_part b.marks.now);
      ends = let h : k ≤ length b.ends.now = omega (arith, r.ends, same) in search (rules, past_part_at b.ends.now);
      settled = search (rules, past_part b.settled.now);
    }
