-- Moves are bounded by closings.
use Rattle.std.proofs.Common.{◌≡◌, ℕ, suc, ◌+◌, ◌*◌, ◌≤◌, ◌≢◌, List, [], ◌∷◌, length, refl, mul-le-mul_left, arith, length-append}
use Rattle.rules.specs.Meanings.{Meaning}
use Rattle.model.specs.Decisions.{Decision, taken, refused, takens, closed}
use Rattle.model.specs.Moves.{State, start, restarting, Move, close, restart, decide, called, Reach, here, more}
use Rattle.model.proofs.Formed.{Whole, whole_run}
use Rattle.model.proofs.Chosen.{takens_few}

closed_takens : (ds : List Decision) → takens ds ≢ [] → length (takens ds) ≡ suc (length (takens (closed ds)))
closed_takens [] some = absurd (some refl)
closed_takens (taken w ∷ ds) some = omega (arith, length-append (takens ds) (w ∷ []))
closed_takens (refused w ∷ ds) some = closed_takens ds some

-- What is taken pays for its decision; a closing for itself and one decision; a restart for itself and one decision a group.
record Paid (n : ℕ) (s : State) : Type 0 where
  moves : s.moves ≤ length (takens s.branch) + 2 * s.closings + (n + 1) * s.restarts
  restarts : s.restarts + s.since ≤ s.closings

module _ (lists : List ℕ) (book : Meaning) (room : ℕ) where
  abbrev n : ℕ
  n = length lists

  paid_restarting : (s : State) → Whole lists s → 1 ≤ s.since → Paid n s → Paid n (restarting s)
  paid_restarting s whole one p = record { moves = omega (arith, p.moves, takens_few lists s.branch whole.branch); restarts = omega (arith, p.restarts) }

  paid_move : (s t : State) → Move lists book room s t → Whole lists s → Paid n s → Paid n t
  paid_move s t (close k r dead some) whole p = record { moves = omega (arith, p.moves, closed_takens s.branch some); restarts = omega (arith, p.restarts) }
  paid_move s t (restart k r alive wide c one due fits) whole p = paid_restarting s whole (omega arith) p
  paid_move s t (decide k r alive w c kept other ne) whole p = record { moves = omega (arith, p.moves, length-append (takens s.branch) (w ∷ [])); restarts = p.restarts }
  paid_move s t (called one fits) whole p = paid_restarting s whole one p

  paid_run : (s : State) → Reach lists book room start s → Paid n s
  paid_run s here = record { moves = omega arith; restarts = omega arith }
  paid_run s (more {t = m} run move) = paid_move m s move (whole_run lists book room m run) (paid_run m run)

  pub moves_run : (s : State) → Reach lists book room start s → s.moves ≤ n + (n + 3) * s.closings
  moves_run s run = let p = paid_run s run in
      let few : length (takens s.branch) ≤ n = takens_few lists s.branch (whole_run lists book room s run).branch in
      omega (arith, p.moves, mul-le-mul_left (n + 1) r_c, few)
    where
      r_c : s.restarts ≤ s.closings
      r_c = omega (arith, (paid_run s run).restarts)
