-- A sitting is a chain of the moves of `model`, and an open one has made just the moves allowed.
use Rattle.std.proofs.Common.{◌≡◌, ℕ, suc, ◌+◌, ◌*◌, ◌<◌, ◌≤◌, ◌≢◌, List, ◌∷◌, length, get_or, Some, refl, ◌∙◌, subst, inl, inr, arith}
use Rattle.std.proofs.lemmas.Bool.{cases_eq}
use Rattle.rules.specs.Channels.{Has}
use Rattle.branching.specs.Channels.{Open}
use Rattle.branching.specs.Order.{Branches, Remains}
use Rattle.branching.specs.Bits.{counts_two, below_pow}
use Rattle.model.specs.Masks.{grp, chan}
use Rattle.rules.specs.Meanings.{Meaning}
use Rattle.model.specs.Remains.{Family, family, Single, Alive}
use Rattle.model.specs.Moves.{State, deciding, Left, EndedNone, Move, close as may_close, restart as may_restart, decide as may_decide, Reach, here, more}
use Rattle.laws.specs.Orders.{asked, Order, IsLawfulOrder, Policy, IsLawfulPolicy}
use Rattle.laws.specs.Sizes.{IsLawfulOn}
use Rattle.laws.specs.Sittings.{Search, Verdict, none, plan, unsettled, Leaves, Turn, close, restart, decide, Sits, ends_none, ends_plan, spent, moves_on}
use Rattle.laws.proofs.Masks.{Has-has, leaves_words}
use Rattle.laws.proofs.Orders.{lawful_on}

group_of : (g c : ℕ) → c < 64 → grp (64 * g + c) ≡ g
group_of g c h = omega arith

channel_of : (g c : ℕ) → c < 64 → chan (64 * g + c) ≡ c
channel_of g c h = omega arith

-- A set that counts two has a channel other than c.
another : (m c : ℕ) → (a : ℕ) × (b : ℕ) × (a < b) × Has m a × Has m b → (d : ℕ) × Has m d × (d ≢ c)
another m c (a, b, l, p, q) = elim (cases_eq a c) [ inl e ↦ (b, q, λ f. absurd (omega arith)) | inr e ↦ (a, p, e) ]

module _ (lists : List ℕ) (book : Meaning) (order : Order) (policy : Policy) (room : ℕ) where
  module _ (right : IsLawfulOn (length lists) order) (steady : IsLawfulPolicy policy) where
    -- What the order answers may be decided.
    decides : (s : Search) (masks : List ℕ) → Leaves lists book s.state masks → Alive lists (family masks)
        → (g c : ℕ) → order.group s.events masks ≡ Some g → order.channel (asked masks ∷ s.events) masks g ≡ Some c
        → Move lists book room s.state (deciding (64 * g + c) s.state)
    decides s masks l alive g c eg ec =
        let words = leaves_words lists book s.state masks l in
        let open-group : Open masks g = subst (Branches masks) eg (right.branches s.events masks l.size words) in
        let channel : Has (get_or masks g 0) c = subst (Remains masks g) ec (right.remains (asked masks ∷ s.events) masks g l.size words) in
        let m = get_or masks g 0 in
        let d = another m c (counts_two m m (below_pow m) open-group) in
        let kept = Has-has m c channel in
        let small = (l.remain.meets.within g c kept).channel in
        may_decide (family masks) l.remain alive (64 * g + c) d.0
        (rw (group_of g c small, channel_of g c small) kept)
        (rw (group_of g c small) (Has-has m d.0 d.1))
        (λ e. d.2 (e ∙ channel_of g c small))

    pub turn_move_on : (s t : Search) → Turn lists book order policy room s t → Move lists book room s.state t.state
    turn_move_on s t (close masks l dead some) = may_close (family masks) l.remain dead some
    turn_move_on s t (restart masks l alive wide due) =
        may_restart (family masks) l.remain alive wide (policy.cutoff s.restarts) (steady s.restarts) due.0 due.1
    turn_move_on s t (decide masks l alive wide not_due g c eg ec) = decides s masks l alive g c eg ec

    -- What every move keeps holds at the end, and at all states of the trail.
    pub sits_keeps : (P : State → Type 0) → ((s t : State) → Move lists book room s t → P s → P t)
        → (n : ℕ) (s : Search) (v : Verdict) (t : Search) → Sits lists book order policy room n s v t → P s.state → P t.state
    sits_keeps P step n s v t (ends_none masks l dead e) p = p
    sits_keeps P step n s v t (ends_plan masks l x e single) p = p
    sits_keeps P step n s v t (spent going) p = p
    sits_keeps P step n s v t (moves_on {n = m} {t = u} turn rest) p = sits_keeps P step m u v t rest (step s.state u.state (turn_move_on s u turn) p)

    pub sits_reach : (n : ℕ) (s : Search) (v : Verdict) (t : Search) → Sits lists book order policy room n s v t → Reach lists book room s.state t.state
    sits_reach n s v t sits = sits_keeps (λ u. Reach lists book room s.state u) (λ u w move reach. more reach move) n s v t sits here

  -- So is a turn by a lawful order on at most 200 groups.
  pub turn_move : length lists ≤ 200 → IsLawfulOrder order → IsLawfulPolicy policy → (s t : Search) → Turn lists book order policy room s t → Move lists book room s.state t.state
  turn_move few lawful steady = turn_move_on (lawful_on order (length lists) lawful few) steady

  turn_counts : (s t : Search) → Turn lists book order policy room s t → t.state.moves ≡ suc s.state.moves
  turn_counts s t (close masks l dead some) = refl
  turn_counts s t (restart masks l alive wide due) = refl
  turn_counts s t (decide masks l alive wide not_due g c eg ec) = refl

  pub open_spends : (n : ℕ) (s t : Search) → Sits lists book order policy room n s unsettled t → t.state.moves ≡ s.state.moves + n
  open_spends n s t (spent going) = omega arith
  open_spends n s t (moves_on {n = m} {t = u} turn rest) = omega (arith, turn_counts s u turn, open_spends m u t rest)

  -- How a sitting ends.
  pub sits_none : (n : ℕ) (s t : Search) → Sits lists book order policy room n s none t → EndedNone lists book t.state
  sits_none n s t (ends_none masks l dead e) = (family masks, l.remain, dead, e)
  sits_none n s t (moves_on {n = m} {t = u} turn rest) = sits_none m u t rest

  pub sits_plan : (n : ℕ) (s t : Search) (x : List ℕ) → Sits lists book order policy room n s (plan x) t
      → (k : Family) × Left lists book t.state k × (length x ≡ length lists) × Single lists k x
  sits_plan n s t x (ends_plan masks l y e single) = (family masks, l.remain, e, single)
  sits_plan n s t x (moves_on {n = m} {t = u} turn rest) = sits_plan m u t x rest

  -- For a loop over the moves: however the sitting goes on from t, so it goes from s.
  abbrev pub Onward : ℕ → Search → ℕ → Search → Type 0
  Onward n s m t = (v : Verdict) (u : Search) → Sits lists book order policy room m t v u → Sits lists book order policy room n s v u

  pub onward_none : (n : ℕ) (s : Search) → Onward n s n s
  onward_none n s v u sits = sits

  pub onward_more : (n : ℕ) (s : Search) (m : ℕ) (t u : Search) → Onward n s (suc m) t → Turn lists book order policy room t u → Onward n s m u
  onward_more n s m t u on turn v x sits = on v x (moves_on turn sits)
