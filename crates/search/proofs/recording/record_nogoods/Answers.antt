use Rattle.std.proofs.Common.{◌≡◌, ℕ, ◌+◌, ◌-◌, ◌<◌, ◌≤◌, List, ◌∷◌, ◌++◌, length, get_or, take, drop, sym, ap, ◌∙◌, one-add, arith, length-append}
use Rattle.std.proofs.lemmas.List.{take_rest, length-drop}
use Rattle.model.specs.Decisions.{reduced}
use Rattle.model.specs.Words.{branch_of, recorded}
use Rattle.search.specs.Branches.{nogood_at, nogood_of}
use Rattle.search.proofs.Marks.{nogood_room, nogood_front, reduced_taken, reduced_refused, recorded_push, taken_is, refused_is}
use Rattle.search.proofs.Cuts.{base_written, record_step}
use Rattle.search.proofs.recording.record_nogoods.Goals as goal
use Rattle.search.proofs.recording.record_nogoods.Goals.{in-Refused, in_default}

-- Where a refusal stands, its nogood fits behind those before it.
fits : (ws base start : List ℕ) (used at i : ℕ) → i < length ws → 65536 ≤ get_or ws i 0 → used + length (recorded (reduced (branch_of ws (length ws)))) ≤ length start
    → length base ≡ length start → at ≡ used + length (recorded (reduced (branch_of ws i))) → at + (1 + length (nogood_at ws i)) ≤ length base
fits ws base start used at i l h r same e = let n = nogood_room ws i (length ws) (length start - used) l h (omega arith) in omega arith

pub write_nogood-at-requires-clause-room : goal.write_nogood-at-requires-clause-room
write_nogood-at-requires-clause-room c =
    let ws = c.args.branch.now in
    let i = c.loop-i.i in
    let r = refused_is _ _ c.in-Refused.ensures in
    let f = fits ws c.loop-i.base c.args.base.now c.args.used c.loop-i.at i c.loop-i-test.true r.0 c.requires.room c.loop-i.auto.base c.loop-i.invariant.0 in
    let same = ap length (nogood_front ws i c.in-Refused.assignment (omega arith) r.1) in
    let d = length-drop c.loop-i.at c.loop-i.base in
    rw (take_rest c.loop-i.base c.loop-i.at) (omega arith)

-- One nogood more.
grown : (ws base base' start : List ℕ) (used at at' i : ℕ) → 65536 ≤ get_or ws i 0 → used ≤ length start → at ≡ used + length (recorded (reduced (branch_of ws i)))
    → base ≡ take used start ++ (recorded (reduced (branch_of ws i)) ++ drop at start)
    → base' ≡ take at base ++ ((length (nogood_at ws i) ∷ nogood_at ws i) ++ drop (at + (1 + length (nogood_at ws i))) base) → at' ≡ at + (1 + length (nogood_at ws i))
    → (at' ≡ used + length (recorded (reduced (branch_of ws (i + 1))))) × (base' ≡ take used start ++ (recorded (reduced (branch_of ws (i + 1))) ++ drop at' start))
grown ws base base' start used at at' i h l e b f g =
    let n = nogood_at ws i in
    let r = recorded (reduced (branch_of ws i)) in
    let w = length n ∷ n in
    let eq : recorded (reduced (branch_of ws (i + 1))) ≡ r ++ w = ap recorded (reduced_refused ws i h) ∙ recorded_push (reduced (branch_of ws i)) n in
    let long = length-append r w in
    let size : length (recorded (reduced (branch_of ws (i + 1)))) ≡ length r + length w = ap length eq ∙ long in
    let f' : base' ≡ take at base ++ (w ++ drop (at + length w) base) = f ∙ ap (λ k. take at base ++ (w ++ drop (at + k) base)) (one-add (length n)) in
    let g' : at' ≡ at + length w = g ∙ ap (λ k. at + k) (one-add (length n)) in
    (omega arith, record_step start base base' r w used at l e b f' ∙ ap (λ xs. take used start ++ (xs ++ drop (at + length w) start)) (sym eq) ∙ ap (λ k. take used start ++ (recorded (reduced (branch_of ws (i + 1))) ++ drop k start)) (sym g'))

pub loop-i-preserved : goal.loop-i-preserved
loop-i-preserved c =
    let v = c.loop-i.invariant in
    let ws = c.args.branch.now in
    let i = c.loop-i.i in
    let start = c.args.base.now in
    elim c.match-from.branch [
      | in-Refused w ↦ (
          let r = refused_is _ _ w.in-Refused.ensures in
          let same = nogood_front ws i w.in-Refused.assignment (omega arith) r.1 in
          grown ws c.loop-i.base c.match-from.base start c.args.used c.loop-i.at c.match-from.at i r.0 (omega arith) v.0 v.1
          (w.base-is ∙ base_written c.loop-i.base w.write_nogood-at.new.rest (nogood_of (take i ws) w.in-Refused.assignment) c.loop-i.at w.write_nogood-at.ensures.wrote
          ∙ ap (λ (n : List ℕ). take c.loop-i.at c.loop-i.base ++ ((length n ∷ n) ++ drop (c.loop-i.at + (1 + length n)) c.loop-i.base)) same)
          (w.at-is ∙ ap (λ k. c.loop-i.at + k) (w.write_nogood-at.ensures.words ∙ ap (λ (n : List ℕ). 1 + length n) same)))
      | in_default w ↦ (
          let t = ap recorded (reduced_taken ws i (taken_is _ _ w.in_default.ensures).0) in (
            w.at-is ∙ v.0 ∙ ap (λ xs. c.args.used + length xs) (sym t),
            w.base-is ∙ v.1 ∙ ap (λ xs. take c.args.used start ++ (xs ++ drop c.loop-i.at start)) (sym t) ∙ ap (λ k. take c.args.used start ++ (recorded (reduced (branch_of ws (i + 1))) ++ drop k start)) (sym w.at-is),
          ))
    ]
