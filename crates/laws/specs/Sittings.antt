-- One sitting, move by move.
use Rattle.std.specs.Prelude.{◌≡◌, ℕ, suc, ◌+◌, ◌*◌, ◌≤◌, ◌≢◌, List, [], ◌∷◌, length, Some}
use Rattle.model.specs.Masks.{grp}
use Rattle.rules.specs.Meanings.{Meaning}
use Rattle.model.specs.Decisions.{Decision, taken, refused, takens}
use Rattle.model.specs.Words.{recorded}
use Rattle.model.specs.Remains.{family, Dead, Alive, Wide, Single}
use Rattle.model.specs.Moves.{State, nogoods, closing, restarting, deciding, Left}
use Rattle.laws.specs.Orders.{Event, asked, channel_asked, told, Order, Policy}

-- A search in the course of a call: its state, what the order was asked and told in this call, newest first, and the restarts made in it.
pub record Search : Type 0 where
  pub state : State
  pub events : List Event
  pub restarts : ℕ

abbrev pub begun : State → Search
begun s = record { state = s; events = []; restarts = 0 }

-- The group of the last assignment taken.
abbrev pub blamed : List Decision → ℕ
blamed [] = 0
blamed (taken w ∷ ds) = grp w
blamed (refused w ∷ ds) = blamed ds

-- What each move makes of a search.
abbrev pub after_close : Search → Search
after_close s = record { state = closing s.state; events = told (blamed s.state.branch) ∷ s.events; restarts = s.restarts }

abbrev pub after_restart : Search → Search
after_restart s = record { state = restarting s.state; events = s.events; restarts = suc s.restarts }

abbrev pub after_decide : List ℕ → ℕ → ℕ → Search → Search
after_decide masks g c s = record { state = deciding (64 * g + c) s.state; events = channel_asked masks g ∷ asked masks ∷ s.events; restarts = s.restarts }

-- How a sitting ends: "none", "plan" with its channels, or open.
pub data Verdict : Type 0 where
  none : Verdict
  plan : List ℕ → Verdict
  unsettled : Verdict

module _ (lists : List ℕ) (book : Meaning) where
  -- The masks, one a group, are what remains in the state.
  pub record Leaves (s : State) (masks : List ℕ) : Type 0 where
    pub size : length masks ≡ length lists
    pub remain : Left lists book s (family masks)

  -- The search has not ended: it is dead with something taken, or every group keeps a channel and some group two.
  pub data Going (s : State) : Type 0 where
    dead : (masks : List ℕ) → Leaves s masks → Dead lists (family masks) → takens s.branch ≢ [] → Going s
    wide : (masks : List ℕ) → Leaves s masks → Alive lists (family masks) → Wide (family masks) → Going s

-- The closings since the last restart have reached the cutoff, and the base has space for all nogoods.
abbrev pub Due : Policy → ℕ → Search → Type 0
Due policy room s = (policy.cutoff s.restarts ≤ s.state.since) × (length (recorded (nogoods s.state)) ≤ room)

module _ (lists : List ℕ) (book : Meaning) (order : Order) (policy : Policy) (room : ℕ) where
  -- The one move that a search which has not ended makes: the first that applies.
  pub data Turn (s : Search) : Search → Type 0 where
    close : (masks : List ℕ) → Leaves lists book s.state masks → Dead lists (family masks) → takens s.state.branch ≢ [] → Turn s (after_close s)
    restart : (masks : List ℕ) → Leaves lists book s.state masks → Alive lists (family masks) → Wide (family masks) → Due policy room s → Turn s (after_restart s)
    decide : (masks : List ℕ) → Leaves lists book s.state masks → Alive lists (family masks) → Wide (family masks) → (Due policy room s → ⊥)
        → (g c : ℕ) → order.group s.events masks ≡ Some g → order.channel (asked masks ∷ s.events) masks g ≡ Some c → Turn s (after_decide masks g c s)

  -- A sitting with an allowance of moves, from a search to a verdict and a search.
  pub data Sits : ℕ → Search → Verdict → Search → Type 0 where
    ends_none : {n : ℕ} {s : Search} → (masks : List ℕ) → Leaves lists book s.state masks → Dead lists (family masks) → takens s.state.branch ≡ [] → Sits n s none s
    ends_plan : {n : ℕ} {s : Search} → (masks : List ℕ) → Leaves lists book s.state masks → (x : List ℕ) → length x ≡ length lists → Single lists (family masks) x
        → Sits n s (plan x) s
    spent : {s : Search} → Going lists book s.state → Sits 0 s unsettled s
    moves_on : {n : ℕ} {s t u : Search} {v : Verdict} → Turn s t → Sits n t v u → Sits (suc n) s v u

  -- The states that a sitting comes to, put before those that were before it, newest first.
  abbrev pub trail : {n : ℕ} {s : Search} {v : Verdict} {t : Search} → Sits n s v t → List State → List State
  trail (ends_none masks l d e) past = past
  trail (ends_plan masks l x e p) past = past
  trail (spent g) past = past
  trail (moves_on {t = t} turn rest) past = trail rest (t.state ∷ past)
