use Rattle.std.proofs.Common.{◌≡◌, ℕ, false, ◌||◌, eqb, List, [], ◌∷◌, ◌++◌, length, ◌<◌, sym, ap, ◌∙◌, subst, arith, rules}
use Rattle.propagation.specs.Waiting.{queued, size}
use Rattle.propagation.specs.Waits.{Line, place, marked, waits}
use Rattle.propagation.proofs.Marks.{line_push, line_room, waits_push}
use Rattle.propagation.specs.declared.records.RuleEnd.{RuleEnd}
use Rattle.propagation.proofs.ends.put.Goals as goal

pub unwrap-requires : goal.unwrap-requires
unwrap-requires c =
    let q = queued c.args.ends.now in
    let e = c.args.e in
    let marks = c.args.marks.now in
    let off : marked marks (place e) ≡ false = ap (marked marks) (sym c.number-p.ensures) ∙ sym c.is_marked.ensures ∙ c.if-not-is_marked.true in
    let most = line_room c.args.rules q marks e c.requires.line c.requires.counted off in
    let room : length q < size c.args.ends.now = omega (arith, most, c.requires.space.room) in
    search (rules, room)

pub returns-then-not-is_marked : goal.returns-then-not-is_marked
returns-then-not-is_marked c =
    let q = queued c.args.ends.now in
    let e = c.args.e in
    let marks = c.args.marks.now in
    let off : marked marks (place e) ≡ false = ap (marked marks) (sym c.number-p.ensures) ∙ sym c.is_marked.ensures ∙ c.if-not-is_marked.true in
    let pushed : queued c.push.new.self ≡ q ++ (e ∷ []) = (rw c.unwrap.ensures at c.push.ensures.line).1 in
    record {
      held = c.push.ensures.held;
      sized = c.push.ensures.sized;
      line = subst (λ (x : List RuleEnd). Line c.args.rules x c.mark.new.marks) (sym pushed)
          (line_push c.args.rules q marks c.mark.new.marks e c.requires.line c.requires.counted off
          (λ j. c.mark.ensures j ∙ ap (λ (x : ℕ). marked marks j || eqb j x) c.number-p.ensures));
      more = λ j. ap (λ (x : List RuleEnd). waits x j) pushed ∙ waits_push q e j;
    }
