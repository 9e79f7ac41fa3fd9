-- What is shut out stays shut out.
use Rattle.std.proofs.Common.{◌≡◌, ℕ, true, ◌≢◌, List, [], ◌∷◌, ◌++◌, refl, inl, inr, append-nil}
use Rattle.rules.specs.Meanings.{Meaning}
use Rattle.model.specs.Decisions.{Decision, taken, refused, takens, reduced, closed}
use Rattle.model.specs.Choices.{holds, contains, shut}
use Rattle.model.specs.Moves.{State, nogoods, closing, restarting, Move, close, restart, decide, called, Reach, here, more}
use Rattle.model.proofs.Tests.{any_left, any_right, any_cases, any_one, one_any, all_left}

-- A choice with all that is taken is shut out by the nogood of the closing.
pub closes : (x : List ℕ) (ds : List Decision) → takens ds ≢ [] → contains x (takens ds) ≡ true → shut (reduced (closed ds)) x ≡ true
closes x [] some e = absurd (some refl)
closes x (taken w ∷ ds) some e = any_right (contains x) (reduced ds) ((takens ds ++ w ∷ []) ∷ []) (one_any (contains x) (takens ds ++ w ∷ []) e)
closes x (refused w ∷ ds) some e = closes x ds some e

pub closed_keeps : (x : List ℕ) (ds : List Decision) → takens ds ≢ [] → shut (reduced ds) x ≡ true → shut (reduced (closed ds)) x ≡ true
closed_keeps x [] some e = absurd (some refl)
closed_keeps x (taken w ∷ ds) some e = any_left (contains x) (reduced ds) ((takens ds ++ w ∷ []) ∷ []) e
closed_keeps x (refused w ∷ ds) some e =
    elim (any_cases (contains x) (reduced ds) ((takens ds ++ w ∷ []) ∷ []) e) [
      | inl h ↦ closed_keeps x ds some h
      | inr h ↦ closes x ds some (all_left (holds x) (takens ds) (w ∷ []) (any_one (contains x) (takens ds ++ w ∷ []) h))
    ]

pub closing_keeps : (s : State) (x : List ℕ) → takens s.branch ≢ [] → shut (nogoods s) x ≡ true → shut (nogoods (closing s)) x ≡ true
closing_keeps s x some e =
    elim (any_cases (contains x) s.base (reduced s.branch) e) [
      | inl h ↦ any_left (contains x) s.base (reduced (closed s.branch)) h
      | inr h ↦ any_right (contains x) s.base (reduced (closed s.branch)) (closed_keeps x s.branch some h)
    ]

pub restarting_same : (s : State) → nogoods (restarting s) ≡ nogoods s
restarting_same s = append-nil (nogoods s)

module _ (lists : List ℕ) (book : Meaning) (room : ℕ) (x : List ℕ) where
  pub move_keeps : (s t : State) → Move lists book room s t → shut (nogoods s) x ≡ true → shut (nogoods t) x ≡ true
  move_keeps s t (close k r dead some) e = closing_keeps s x some e
  move_keeps s t (restart k r alive wide c one due fits) e = rw restarting_same e
  move_keeps s t (decide k r alive w c kept other ne) e = e
  move_keeps s t (called one fits) e = rw restarting_same e

  pub run_keeps : (s t : State) → Reach lists book room s t → shut (nogoods s) x ≡ true → shut (nogoods t) x ≡ true
  run_keeps s t here e = e
  run_keeps s t (more {t = m} run move) e = move_keeps m t move (run_keeps s m run e)
