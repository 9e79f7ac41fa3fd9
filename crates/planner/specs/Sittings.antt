-- The sittings of one call, one after another.
use Rattle.std.specs.Prelude.{◌≡◌, ℕ, zero, suc, ◌+◌, ◌≤◌, ◌≢◌, List, [], ◌∷◌, ◌++◌}
use Rattle.rules.specs.Meanings.{Meaning}
use Rattle.branching.specs.Order.{OrderMeaning}
use Rattle.branching.specs.Policy.{PolicyMeaning}
use Rattle.model.specs.Moves.{State}
use Rattle.laws.specs.Orders.{held_after, behaviour, moved_on, cutoffs}
use Rattle.laws.specs.Sittings.{Search, begun, Verdict, unsettled, Sits}
use Rattle.laws.specs.Runs.{Call, sitting}

-- A search between two sittings, with what the order and the policy hold.
pub record Between (H Q : Type 0) : Type 0 where
  pub state : State
  pub order : H
  pub policy : Q

abbrev pub between : {H Q : Type 0} → State → H → Q → Between H Q
between s h q = record { state = s; order = h; policy = q }

-- The limits of a sitting, with the moves that the search has made before.
pub record Allowed (room allowance made : ℕ) : Type 0 where
  pub base : room ≤ 65536
  pub some : 1 ≤ allowance
  pub most : allowance ≤ 1000000
  pub moves : made + allowance ≤ 100000000

module _ {H Q : Type 0} (om : OrderMeaning H) (pm : PolicyMeaning Q) where
  -- What a sitting from b leaves that came to t: the order and the policy hold what its moves made of their holdings.
  abbrev pub left_by : Between H Q → Search → Between H Q
  left_by b t = between t.state (held_after om b.order t.events) (moved_on pm b.policy t.restarts)

  module _ (lists : List ℕ) (book : Meaning) (room allowance : ℕ) where
    -- One sitting within the limits, by the order and the policy as they stand.
    abbrev pub SitsFrom : Between H Q → Verdict → Search → Type 0
    SitsFrom b v t = Allowed room allowance b.state.moves × Sits lists book (behaviour om b.order) (cutoffs pm b.policy) room allowance (begun b.state) v t

    -- At most so many sittings, each from where the one before it left off, until one settles the search or none is left.
    pub data Ran : ℕ → Between H Q → Verdict → Between H Q → Type 0 where
      none_left : {b : Between H Q} → Ran zero b unsettled b
      settled : {n : ℕ} {b : Between H Q} {v : Verdict} {t : Search} → SitsFrom b v t → v ≢ unsettled → Ran (suc n) b v (left_by b t)
      goes_on : {n : ℕ} {b c : Between H Q} {v : Verdict} {t : Search} → SitsFrom b unsettled t → Ran n (left_by b t) v c → Ran (suc n) b v c

    -- A sitting from b, as a call on the search.
    abbrev pub call_from : Between H Q → Call
    call_from b = sitting (behaviour om b.order) (cutoffs pm b.policy) room allowance

    -- These sittings, as calls on the search, newest first.
    abbrev pub sittings : {n : ℕ} {b : Between H Q} {v : Verdict} {c : Between H Q} → Ran n b v c → List Call
    sittings none_left = []
    sittings (settled {b = b} s closed) = call_from b ∷ []
    sittings (goes_on {b = b} s rest) = sittings rest ++ call_from b ∷ []

-- The same sittings come to one verdict and one end.
abbrev pub RanOnce : {H Q : Type 0} → OrderMeaning H → PolicyMeaning Q → Type 0
RanOnce {H = H} {Q = Q} om pm = (lists : List ℕ) (book : Meaning) (room allowance n : ℕ) (b c d : Between H Q) (v w : Verdict)
    → Ran om pm lists book room allowance n b v c → Ran om pm lists book room allowance n b w d → (v ≡ w) × (c ≡ d)
