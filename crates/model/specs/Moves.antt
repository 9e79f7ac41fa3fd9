-- The search, move by move.
use Rattle.std.specs.Prelude.{◌≡◌, ℕ, suc, ◌≤◌, true, ◌≢◌, List, [], ◌∷◌, ◌++◌, length}
use Rattle.model.specs.Masks.{grp, chan}
use Rattle.rules.specs.Meanings.{Meaning}
use Rattle.model.specs.Decisions.{Decision, taken, takens, reduced, closed}
use Rattle.model.specs.Words.{recorded}
use Rattle.model.specs.Remains.{Family, Remains, Dead, Alive, Wide}

pub record State : Type 0 where
  pub branch : List Decision
  pub base : List (List ℕ)
  pub moves : ℕ
  pub closings : ℕ
  pub restarts : ℕ
  -- closings since the last restart
  pub since : ℕ

abbrev pub start : State
start = record { branch = []; base = []; moves = 0; closings = 0; restarts = 0; since = 0 }

-- The nogoods that shut choices out: the recorded ones, and those of the branch's refusals.
abbrev pub nogoods : State → List (List ℕ)
nogoods s = s.base ++ reduced s.branch

abbrev pub closing : State → State
closing s = record { branch = closed s.branch; base = s.base; moves = suc s.moves; closings = suc s.closings; restarts = s.restarts; since = suc s.since }

abbrev pub restarting : State → State
restarting s = record { branch = []; base = nogoods s; moves = suc s.moves; closings = s.closings; restarts = suc s.restarts; since = 0 }

abbrev pub deciding : ℕ → State → State
deciding w s = record { branch = taken w ∷ s.branch; base = s.base; moves = suc s.moves; closings = s.closings; restarts = s.restarts; since = s.since }

module _ (lists : List ℕ) (book : Meaning) where
  -- The family k remains in the state.
  abbrev pub Left : State → Family → Type 0
  Left s k = Remains lists book s.base s.branch k

  -- The search ends in "none": dead, with nothing taken.
  abbrev pub EndedNone : State → Type 0
  EndedNone s = (k : Family) × Left s k × Dead lists k × (takens s.branch ≡ [])

module _ (lists : List ℕ) (book : Meaning) (room : ℕ) where
  -- One move. The state has not ended: where it is dead something is taken, and where it is not some group keeps two channels.
  pub data Move : State → State → Type 0 where
    close : {s : State} → (k : Family) → Left lists book s k → Dead lists k → takens s.branch ≢ [] → Move s (closing s)
    -- The policy's cutoff is reached, and the base has room.
    restart : {s : State} → (k : Family) → Left lists book s k → Alive lists k → Wide k
        → (cutoff : ℕ) → 1 ≤ cutoff → cutoff ≤ s.since → length (recorded (nogoods s)) ≤ room → Move s (restarting s)
    -- A group with two channels is given one of them.
    decide : {s : State} → (k : Family) → Left lists book s k → Alive lists k
        → (w c : ℕ) → k (grp w) (chan w) ≡ true → k (grp w) c ≡ true → c ≢ chan w → Move s (deciding w s)
    -- The call for a restart, at any cutoff.
    called : {s : State} → 1 ≤ s.since → length (recorded (nogoods s)) ≤ room → Move s (restarting s)

  -- Zero or more moves.
  pub data Reach (s : State) : State → Type 0 where
    here : Reach s s
    more : {t u : State} → Reach s t → Move t u → Reach s u
