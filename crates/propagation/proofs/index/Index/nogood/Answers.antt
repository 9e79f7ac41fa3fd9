use Rattle.std.proofs.Common.{arith}
use Rattle.model.specs.Words.{base_of}
use Rattle.propagation.proofs.Indexing.{count_there, room_there, part_there}
use Rattle.propagation.proofs.index.Index.nogood.Goals as goal

pub bounds-base-s : goal.bounds-base-s
bounds-base-s c =
    let t = c.requires.starts in
    let b = room_there c.args.base.now (base_of c.args.base.now) _ t.0 c.requires.whole t.1 in
    omega arith

pub slice_bounds-result-end : goal.slice_bounds-result-end
slice_bounds-result-end c =
    let t = c.requires.starts in
    let a = count_there c.args.base.now (base_of c.args.base.now) _ t.0 c.requires.whole t.1 in
    let b = room_there c.args.base.now (base_of c.args.base.now) _ t.0 c.requires.whole t.1 in
    omega arith

pub returns : goal.returns
returns c n t = part_there c.args.base.now (base_of c.args.base.now) _ n c.requires.whole t
