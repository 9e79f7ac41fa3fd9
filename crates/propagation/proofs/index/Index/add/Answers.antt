use Rattle.std.proofs.Common.{◌≡◌, ℕ, ◌+◌, length, get_or, take, drop, subst, arith}
use Rattle.model.specs.Words.{base_of}
use Rattle.propagation.specs.Indexed.{Indexed}
use Rattle.propagation.proofs.Indexing.{next_start, base_front, front_long, knows_front, some_start, parts_long}
use Rattle.propagation.proofs.index.Index.add.Goals as goal

pub loop-s-init : goal.loop-s-init
loop-s-init c =
    let ws = c.args.base.now in
    let k = c.args.from in
    let h = c.requires.before in
    record {
      parts = (base_of (take k ws), base_of (drop k ws), base_front ws k h.whole, front_long ws k c.requires.within h.whole);
      indexed = knows_front ws k c.args.self.now c.requires.within h;
    }

pub link_all-requires-clause-starts : goal.link_all-requires-clause-starts
link_all-requires-clause-starts c =
    let i = c.loop-s.invariant in
    some_start c.args.base.now (base_of c.args.base.now) i.parts.0 i.parts.1 c.loop-s.s c.requires.whole i.parts.2 i.parts.3 c.loop-s-test.true

pub loop-s-preserved : goal.loop-s-preserved
loop-s-preserved c =
    let ws = c.args.base.now in
    let i = c.loop-s.invariant in
    let t = some_start ws (base_of ws) i.parts.0 i.parts.1 c.loop-s.s c.requires.whole i.parts.2 i.parts.3 c.loop-s-test.true in
    let n = next_start ws (base_of ws) c.loop-s.s t.0 c.requires.whole t.1 in
    let e : c.loop-s.s + 1 + get_or ws c.loop-s.s 0 ≡ c.loop-s.s + (1 + get_or ws c.loop-s.s 0) = omega arith in
    record { parts = (n.0, n.1, n.2, omega (arith, n.3)); indexed = subst (λ (k : ℕ). Indexed (base_of ws) k c.link_all.new.self) e c.link_all.ensures }

pub returns : goal.returns
returns c =
    let ws = c.args.base.now in
    let i = c.loop-s.invariant in
    let l = parts_long ws (base_of ws) i.parts.0 i.parts.1 c.loop-s.s c.requires.whole i.parts.2 i.parts.3 in
    let e : c.loop-s.s ≡ length ws = omega arith in
    record { whole = c.requires.whole; indexed = subst (λ (k : ℕ). Indexed (base_of ws) k c.loop-s.self) e i.indexed }
