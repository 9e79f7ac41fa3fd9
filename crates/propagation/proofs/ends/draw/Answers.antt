use Rattle.std.proofs.Common.{ℕ, not, ◌&&◌, eqb, ap, ◌∙◌, arith}
use Rattle.propagation.specs.Waiting.{queued}
use Rattle.propagation.specs.Waits.{marked}
use Rattle.propagation.proofs.Marks.{first_marked, first_below, line_rest, line_split, place_below}
use Rattle.propagation.proofs.ends.draw.Goals as goal

pub number-p-requires : goal.number-p-requires
number-p-requires c =
    let l = line_split c.args.rules (queued c.args.ends.now) (queued c.pop.new.self) c.args.marks.now c.in_ok-e.e c.in_ok-e.ensures.line c.requires.line in
    omega (arith, first_below c.args.rules _ _ c.in_ok-e.e l, c.requires.space.few)

pub unmark-requires : goal.unmark-requires
unmark-requires c =
    let l = line_split c.args.rules (queued c.args.ends.now) (queued c.pop.new.self) c.args.marks.now c.in_ok-e.e c.in_ok-e.ensures.line c.requires.line in
    record {
      within = omega (arith, place_below c.args.rules c.in_ok-e.e (first_below c.args.rules _ _ c.in_ok-e.e l), c.number-p.ensures, c.requires.space.few);
      words = c.requires.space.words;
      state = ap (marked c.args.marks.now) c.number-p.ensures ∙ first_marked _ _ _ c.in_ok-e.e l;
    }

pub returns-clause-line : goal.returns-clause-line
returns-clause-line c =
    let e = c.in_ok-e.e in
    let marks = c.args.marks.now in
    let l = line_split c.args.rules (queued c.args.ends.now) (queued c.pop.new.self) marks e c.in_ok-e.ensures.line c.requires.line in
    line_rest c.args.rules (queued c.pop.new.self) marks c.unmark.new.marks e l (λ j. c.unmark.ensures j ∙ ap (λ (x : ℕ). marked marks j && not (eqb j x)) c.number-p.ensures)

pub returns-clause-first : goal.returns-clause-first
returns-clause-first c =
    let l = line_split c.args.rules (queued c.args.ends.now) (queued c.pop.new.self) c.args.marks.now c.in_ok-e.e c.in_ok-e.ensures.line c.requires.line in
    (first_below c.args.rules _ _ c.in_ok-e.e l, c.in_ok-e.ensures.line)
