use Rattle.std.proofs.Common.{◌≡◌, ℕ, ◌+◌, get_or, subst, arith}
use Rattle.model.specs.Words.{base_of}
use Rattle.propagation.specs.Indexed.{Indexed}
use Rattle.propagation.proofs.Indexing.{count_there, room_there, stands_there, indexed_skip, small_standing}
use Rattle.propagation.proofs.index.Index.link_all.Goals as goal

pub overflow_add-end : goal.overflow_add-end
overflow_add-end c =
    let t = c.requires.starts in
    let a = count_there c.args.base.now (base_of c.args.base.now) c.args.s t.0 c.requires.whole t.1 in
    let b = room_there c.args.base.now (base_of c.args.base.now) c.args.s t.0 c.requires.whole t.1 in
    omega (arith, c.requires.short)

pub overflow_add-end-2 : goal.overflow_add-end-2
overflow_add-end-2 c =
    let t = c.requires.starts in
    let a = count_there c.args.base.now (base_of c.args.base.now) c.args.s t.0 c.requires.whole t.1 in
    let b = room_there c.args.base.now (base_of c.args.base.now) c.args.s t.0 c.requires.whole t.1 in
    omega (arith, c.requires.short)

pub offset_bounds-base-s : goal.offset_bounds-base-s
offset_bounds-base-s c =
    let t = c.requires.starts in
    let b = room_there c.args.base.now (base_of c.args.base.now) c.args.s t.0 c.requires.whole t.1 in
    omega (arith, c.requires.short)

pub bounds-base-s : goal.bounds-base-s
bounds-base-s c =
    let t = c.requires.starts in
    let b = room_there c.args.base.now (base_of c.args.base.now) c.args.s t.0 c.requires.whole t.1 in
    omega arith

pub overflow_step-p : goal.overflow_step-p
overflow_step-p c =
    let t = c.requires.starts in
    let a = count_there c.args.base.now (base_of c.args.base.now) c.args.s t.0 c.requires.whole t.1 in
    let b = room_there c.args.base.now (base_of c.args.base.now) c.args.s t.0 c.requires.whole t.1 in
    omega (arith, c.requires.short)

pub loop-p-init : goal.loop-p-init
loop-p-init c = let t = c.requires.starts in indexed_skip (base_of c.args.base.now) c.args.s t.0 c.args.self.now t.1 c.requires.before

pub link-requires-clause-within : goal.link-requires-clause-within
link-requires-clause-within c =
    let t = c.requires.starts in
    let a = count_there c.args.base.now (base_of c.args.base.now) c.args.s t.0 c.requires.whole t.1 in
    let b = room_there c.args.base.now (base_of c.args.base.now) c.args.s t.0 c.requires.whole t.1 in
    omega arith

pub link-requires-clause-stands : goal.link-requires-clause-stands
link-requires-clause-stands c =
    let t = c.requires.starts in
    stands_there c.args.base.now (base_of c.args.base.now) c.args.s t.0 c.requires.whole t.1 c.loop-p.p (omega arith) (omega arith)

pub link-requires-clause-small : goal.link-requires-clause-small
link-requires-clause-small c =
    let t = c.requires.starts in
    small_standing (base_of c.args.base.now) c.args.s _ c.loop-p.p c.requires.grouped
    (stands_there c.args.base.now (base_of c.args.base.now) c.args.s t.0 c.requires.whole t.1 c.loop-p.p (omega arith) (omega arith))

pub returns : goal.returns
returns c =
    let e : c.loop-p.p ≡ c.args.s + 1 + get_or c.args.base.now c.args.s 0 = omega (arith, c.loop-p.auto.p-end (omega arith)) in
    subst (λ (k : ℕ). Indexed (base_of c.args.base.now) k c.loop-p.self) e c.loop-p.invariant
