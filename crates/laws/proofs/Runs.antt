-- The law of runs.
use Rattle.std.proofs.Common.{◌≡◌, ℕ, suc, ◌+◌, ◌*◌, ◌<◌, ◌≤◌, true, List, [], ◌∷◌, ◌++◌, length, Some, None, sym, refl, ap, ◌∙◌, subst, inl, append_assoc, le_trans, arith}
use Rattle.std.specs.List.{AllByRecursion}
use Rattle.std.proofs.ByRecursion.{All-weaker}
use Rattle.rules.specs.Meanings.{Meaning, Lawful}
use Rattle.rules.specs.Plans.{Plan}
use Rattle.model.specs.Moves.{State, start, restarting, Move, close as may_close, restart as may_restart, decide as may_decide, called, Reach, here, more}
use Rattle.model.proofs.Formed.{whole_run}
use Rattle.model.proofs.Shut.{move_keeps}
use Rattle.model.proofs.Sound.{sound_run, none_run, plan_run}
use Rattle.model.proofs.Closings.{closings_run}
use Rattle.model.proofs.Moves.{moves_run}
use Rattle.laws.specs.Orders.{Order, IsLawfulOrder, Policy, IsLawfulPolicy}
use Rattle.laws.specs.Sizes.{IsLawfulOn}
use Rattle.laws.specs.Sittings.{Search, begun, Verdict, none, plan, unsettled, Turn, close, restart, decide, Sits, ends_none, ends_plan, spent, moves_on, trail}
use Rattle.laws.specs.Requests.{Request, is_branch_sound, is_base_sound, sitting_refusal, restart_refusal}
use Rattle.laws.specs.Runs.{Run, opened, sat, restarted, sitting_refused, restart_refused, history, Carried, Found, WithBook, sitting, restart as restart_call, refused_sitting, refused_restart}
use Rattle.laws.specs.Law.{Kept, KeptThroughout, Counted, started, closed, restarted as counted_restart, decided, Good, Law, Continues}
use Rattle.laws.proofs.Orders.{lawful_on}
use Rattle.laws.proofs.Sittings.{turn_move_on, sits_keeps, sits_none, sits_plan}
use Rattle.laws.proofs.Words.{branch_is, base_is}
use Rattle.laws.proofs.Spare.{Spare, spare_move, spare_few}
use Rattle.laws.proofs.Refusals.{open_agrees, open_some, open_few, restart_since, restart_fits}

-- A history has a state for each move, and the one that it begins with.
counted_length : (h : List State) (m c r : ℕ) → Counted h m c r → length h ≡ suc m
counted_length h m c r started = refl
counted_length h m c r (closed {s = s} {past = past} {m = m'} {c = c'} {r = r'} some rest) = ap suc (counted_length (s ∷ past) m' c' r' rest)
counted_length h m c r (counted_restart {s = s} {past = past} {m = m'} {c = c'} {r = r'} rest) = ap suc (counted_length (s ∷ past) m' c' r' rest)
counted_length h m c r (decided w {s = s} {past = past} {m = m'} {c = c'} {r = r'} rest) = ap suc (counted_length (s ∷ past) m' c' r' rest)

-- A sitting that answers "plan" gives one.
pub plans_are_plans : (lists : List ℕ) (book : Meaning) → Lawful book → book.groups ≡ length lists
    → (order : Order) (policy : Policy) (room n : ℕ) (s : Search) (x : List ℕ) (t : Search) → Sits lists book order policy room n s (plan x) t → Plan lists book x
plans_are_plans lists book lawful same order policy room n s x t sits =
    let p = sits_plan lists book order policy room n s t x sits in
    plan_run lists book t.state lawful same p.0 p.1 x p.2 p.3

-- A move with some room is one with more.
module _ (lists : List ℕ) (book : Meaning) (room more_room : ℕ) (le : room ≤ more_room) where
  wider_move : (s t : State) → Move lists book room s t → Move lists book more_room s t
  wider_move s t (may_close k l d some) = may_close k l d some
  wider_move s t (may_restart k l a w c one due fits) = may_restart k l a w c one due (le_trans fits le)
  wider_move s t (may_decide k l a w c kept other ne) = may_decide k l a w c kept other ne
  wider_move s t (called one fits) = called one (le_trans fits le)

  wider : (s t : State) → Reach lists book room s t → Reach lists book more_room s t
  wider s t here = here
  wider s t (more {t = m} run move) = more (wider s m run) (wider_move m t move)

module _ (lists : List ℕ) (book : Meaning) where
  -- The moves of `model` lead to the state, with some room.
  abbrev Reached : State → Type 0
  Reached s = (room : ℕ) × Reach lists book room start s

  reached_more : (room : ℕ) (s t : State) → Move lists book room s t → Reached s → Reached t
  reached_more room s t move (r, run) =
      (r + room, more (wider lists book r (r + room) (omega arith) start s run) (wider_move lists book room (r + room) (omega arith) s t move))

  -- What every move keeps holds along a trail.
  module _ (order : Order) (right : IsLawfulOn (length lists) order) (policy : Policy) (lp : IsLawfulPolicy policy) (room : ℕ) where
    trail_all : (P : State → Type 0) → ((s t : State) → Move lists book room s t → P s → P t)
        → (n : ℕ) (s : Search) (v : Verdict) (t : Search) (sits : Sits lists book order policy room n s v t) (past : List State)
        → P s.state → AllByRecursion P past → AllByRecursion P (trail lists book order policy room sits past)
    trail_all P step n s v t (ends_none masks l d e) past p h = h
    trail_all P step n s v t (ends_plan masks l x e q) past p h = h
    trail_all P step n s v t (spent g) past p h = h
    trail_all P step n s v t (moves_on {n = m} {t = u} turn rest) past p h =
        let q = step s.state u.state (turn_move_on lists book order policy room right lp s u turn) p in
        trail_all P step m u v t rest (u.state ∷ past) q (q, h)

    trail_kept : (n : ℕ) (s : Search) (v : Verdict) (t : Search) (sits : Sits lists book order policy room n s v t) (past : List State)
        → AllByRecursion (λ p. Kept p s.state) past × KeptThroughout past
        → AllByRecursion (λ p. Kept p t.state) (trail lists book order policy room sits past) × KeptThroughout (trail lists book order policy room sits past)
    trail_kept n s v t (ends_none masks l d e) past h = h
    trail_kept n s v t (ends_plan masks l x e q) past h = h
    trail_kept n s v t (spent g) past h = h
    trail_kept n s v t (moves_on {n = m} {t = u} turn rest) past h =
        let move = turn_move_on lists book order policy room right lp s u turn in
        let later = All-weaker (λ p. Kept p s.state) (λ p. Kept p u.state) (λ p k x e. move_keeps lists book room x s.state u.state move (k x e)) past h.0 in
        trail_kept m u v t rest (u.state ∷ past) ((λ x e. e, later), (later, h.1))

  trail_extends : (order : Order) (policy : Policy) (room n : ℕ) (s : Search) (v : Verdict) (t : Search) (sits : Sits lists book order policy room n s v t) (past : List State)
      → (new : List State) × (trail lists book order policy room sits past ≡ new ++ past)
  trail_extends order policy room n s v t (ends_none masks l d e) past = ([], refl)
  trail_extends order policy room n s v t (ends_plan masks l x e q) past = ([], refl)
  trail_extends order policy room n s v t (spent g) past = ([], refl)
  trail_extends order policy room n s v t (moves_on {n = m} {t = u} turn rest) past =
      let r = trail_extends order policy room m u v t rest (u.state ∷ past) in
      (r.0 ++ u.state ∷ [], r.1 ∙ sym (append_assoc r.0 (u.state ∷ []) past))

  -- The lists are at most 200.
  run_few : (v : Verdict) (s : State) → Run lists book v s → length lists ≤ 200
  run_few v s (opened q l b e) = rw l at (open_few q e)
  run_few v s (sat {s = s0} run q f b e order lo policy lp sits) = run_few unsettled s0 run
  run_few v s (restarted {s = s0} run q f e) = run_few unsettled s0 run
  run_few v s (sitting_refused run q f n p e) = run_few v s run
  run_few v s (restart_refused run q f n p e) = run_few v s run

  -- What the first state has and every move keeps holds at the end of a run and at all its points.
  module _ (P : State → Type 0) (first : P start) (step : (room : ℕ) (s t : State) → Move lists book room s t → P s → P t) where
    run_all : (v : Verdict) (s : State) (run : Run lists book v s) → P s × AllByRecursion P (history lists book run)
    run_all v s (opened q l b e) = (first, (first, tt))
    run_all v s (sat {s = s0} run q f b e order lo policy lp {t = t} sits) =
        let h = run_all unsettled s0 run in
        let right = lawful_on order (length lists) lo (run_few unsettled s0 run) in (
          sits_keeps lists book order policy (length q.base) right lp P (step (length q.base)) q.allowance (begun s0) v t sits h.0,
          trail_all order right policy lp (length q.base) P (step (length q.base)) q.allowance (begun s0) v t sits (history lists book run) h.0 h.1,
        )
    run_all v s (restarted {s = s0} run q f e) =
        let h = run_all unsettled s0 run in
        let p = step (length q.base) s0 (restarting s0) (called (restart_since lists q s0 f e) (restart_fits lists q s0 f e)) h.0 in
        (p, (p, h.1))
    run_all v s (sitting_refused run q f n p e) = run_all v s run
    run_all v s (restart_refused run q f n p e) = run_all v s run

  run_kept : (v : Verdict) (s : State) (run : Run lists book v s) → AllByRecursion (λ p. Kept p s) (history lists book run) × KeptThroughout (history lists book run)
  run_kept v s (opened q l b e) = ((λ x h. h, tt), (tt, tt))
  run_kept v s (sat {s = s0} run q f b e order lo policy lp {t = t} sits) =
      trail_kept order (lawful_on order (length lists) lo (run_few unsettled s0 run)) policy lp (length q.base) q.allowance (begun s0) v t sits (history lists book run) (run_kept unsettled s0 run)
  run_kept v s (restarted {s = s0} run q f e) =
      let h = run_kept unsettled s0 run in
      let move : Move lists book (length q.base) s0 (restarting s0) = called (restart_since lists q s0 f e) (restart_fits lists q s0 f e) in
      let later = All-weaker (λ p. Kept p s0) (λ p. Kept p (restarting s0)) (λ p k x e. move_keeps lists book (length q.base) x s0 (restarting s0) move (k x e)) (history lists book run) h.0 in
      ((λ x e. e, later), (later, h.1))
  run_kept v s (sitting_refused run q f n p e) = run_kept v s run
  run_kept v s (restart_refused run q f n p e) = run_kept v s run

  trail_latest : (order : Order) (policy : Policy) (room n : ℕ) (s : Search) (v : Verdict) (t : Search) (sits : Sits lists book order policy room n s v t) (past : List State)
      → (rest : List State) × (past ≡ s.state ∷ rest) → (rest : List State) × (trail lists book order policy room sits past ≡ t.state ∷ rest)
  trail_latest order policy room n s v t (ends_none masks l d e) past h = h
  trail_latest order policy room n s v t (ends_plan masks l x e q) past h = h
  trail_latest order policy room n s v t (spent g) past h = h
  trail_latest order policy room n s v t (moves_on {n = m} {t = u} turn rest) past h = trail_latest order policy room m u v t rest (u.state ∷ past) (past, refl)

  run_latest : (v : Verdict) (s : State) (run : Run lists book v s) → (past : List State) × (history lists book run ≡ s ∷ past)
  run_latest v s (opened q l b e) = ([], refl)
  run_latest v s (sat {s = s0} run q f b e order lo policy lp {t = t} sits) = trail_latest order policy (length q.base) q.allowance (begun s0) v t sits (history lists book run) (run_latest unsettled s0 run)
  run_latest v s (restarted {s = s0} run q f e) = (history lists book run, refl)
  run_latest v s (sitting_refused run q f n p e) = run_latest v s run
  run_latest v s (restart_refused run q f n p e) = run_latest v s run

  -- A move adds one state to the history, and one to the number of such moves.
  turn_counted : (order : Order) (policy : Policy) (room : ℕ) (s t : Search) → Turn lists book order policy room s t → (past : List State)
      → Counted (s.state ∷ past) s.state.moves s.state.closings s.state.restarts → Counted (t.state ∷ s.state ∷ past) t.state.moves t.state.closings t.state.restarts
  turn_counted order policy room s t (close masks l d some) past h = closed some h
  turn_counted order policy room s t (restart masks l a w due) past h = counted_restart h
  turn_counted order policy room s t (decide masks l a w not_due g c eg ec) past h = decided (64 * g + c) h

  trail_counted : (order : Order) (policy : Policy) (room n : ℕ) (s : Search) (v : Verdict) (t : Search) (sits : Sits lists book order policy room n s v t) (past : List State)
      → Counted (s.state ∷ past) s.state.moves s.state.closings s.state.restarts
      → Counted (trail lists book order policy room sits (s.state ∷ past)) t.state.moves t.state.closings t.state.restarts
  trail_counted order policy room n s v t (ends_none masks l d e) past h = h
  trail_counted order policy room n s v t (ends_plan masks l x e q) past h = h
  trail_counted order policy room n s v t (spent g) past h = h
  trail_counted order policy room n s v t (moves_on {n = m} {t = u} turn rest) past h =
      trail_counted order policy room m u v t rest (s.state ∷ past) (turn_counted order policy room s u turn past h)

  run_counted : (v : Verdict) (s : State) (run : Run lists book v s) → Counted (history lists book run) s.moves s.closings s.restarts
  run_counted v s (opened q l b e) = started
  run_counted v s (sat {s = s0} run q f b e order lo policy lp {t = t} sits) =
      let p = run_latest unsettled s0 run in
      let h : Counted (s0 ∷ p.0) s0.moves s0.closings s0.restarts = subst (λ h. Counted h s0.moves s0.closings s0.restarts) p.1 (run_counted unsettled s0 run) in
      subst (λ h. Counted (trail lists book order policy (length q.base) sits h) t.state.moves t.state.closings t.state.restarts) (sym p.1)
      (trail_counted order policy (length q.base) q.allowance (begun s0) v t sits p.0 h)
  run_counted v s (restarted {s = s0} run q f e) =
      let p = run_latest unsettled s0 run in
      let h : Counted (s0 ∷ p.0) s0.moves s0.closings s0.restarts = subst (λ h. Counted h s0.moves s0.closings s0.restarts) p.1 (run_counted unsettled s0 run) in
      let next = restarting s0 in
      subst (λ h. Counted (restarting s0 ∷ h) next.moves next.closings next.restarts) (sym p.1) (counted_restart h)
  run_counted v s (sitting_refused run q f n p e) = run_counted v s run
  run_counted v s (restart_refused run q f n p e) = run_counted v s run

  -- The book is for the groups of the lists.
  run_groups : (v : Verdict) (s : State) → Run lists book v s → book.groups ≡ length lists
  run_groups v s (opened q l b e) = sym b.groups ∙ open_agrees q e ∙ ap length l
  run_groups v s (sat {s = s0} run q f b e order lo policy lp sits) = run_groups unsettled s0 run
  run_groups v s (restarted {s = s0} run q f e) = run_groups unsettled s0 run
  run_groups v s (sitting_refused run q f n p e) = run_groups v s run
  run_groups v s (restart_refused run q f n p e) = run_groups v s run

  run_some : (v : Verdict) (s : State) → Run lists book v s → 1 ≤ length lists
  run_some v s (opened q l b e) = rw l at (open_some q e)
  run_some v s (sat {s = s0} run q f b e order lo policy lp sits) = run_some unsettled s0 run
  run_some v s (restarted {s = s0} run q f e) = run_some unsettled s0 run
  run_some v s (sitting_refused run q f n p e) = run_some v s run
  run_some v s (restart_refused run q f n p e) = run_some v s run

  pub run_reached : (v : Verdict) (s : State) → Run lists book v s → Reached s
  run_reached v s run = (run_all Reached (0, here) reached_more v s run).0

  -- The branch of a run has room for a decision more.
  run_spare : (v : Verdict) (s : State) → Run lists book v s → length s.branch < 64 * length lists
  run_spare v s run = spare_few lists s.branch (run_some v s run) (whole_run lists book (run_reached v s run).0 s (run_reached v s run).1).branch (run_all (Spare lists) (inl refl) (spare_move lists book) v s run).0

  pub undisturbed : (v : Verdict) (s : State) → Run lists book v s → (q : Request) → Found lists q s
      → (is_branch_sound q ≡ true) × (is_base_sound q ≡ true) × (q.branch_length < 64 * q.groups)
  undisturbed v s run q f =
      let reach = run_reached v s run in
      let w = whole_run lists book reach.0 s reach.1 in (
        rw (f.listed, f.branch) (branch_is lists s.branch w.branch),
        rw (f.listed, f.base) (base_is lists s.base w.base),
        rw (f.carried.branch_length, f.carried.groups) (run_spare v s run),
      )

  module _ (lawful : Lawful book) where
    good : book.groups ≡ length lists → (s : State) → Reached s → Good lists book s
    good same s (room, run) = record {
      sound = λ x full. sound_run lists book room lawful same x full s run;
      closings = closings_run lists book room s run;
      moves = moves_run lists book room s run;
    }

    none_holds : (s : State) (run : Run lists book none s) → (x : List ℕ) → Plan lists book x → ⊥
    none_holds s (sat {s = s0} run q f b e order lo policy lp {t = t} sits) =
        let reach = (run_all Reached (0, here) reached_more none s (sat run q f b e order lo policy lp sits)).0 in
        none_run lists book reach.0 lawful (run_groups unsettled s0 run) s reach.1 (sits_none lists book order policy (length q.base) q.allowance (begun s0) t sits)

    plan_holds : (x : List ℕ) (s : State) (run : Run lists book (plan x) s) → Plan lists book x
    plan_holds x s (sat {s = s0} run q f b e order lo policy lp {t = t} sits) =
        plans_are_plans lists book lawful (run_groups unsettled s0 run) order policy (length q.base) q.allowance (begun s0) x t sits

    pub law : (v : Verdict) (s : State) (run : Run lists book v s) → Law lists book run
    law v s run =
        let reach = run_all Reached (0, here) reached_more v s run in
        let same = run_groups v s run in
        record {
          here = good same s reach.0;
          latest = run_latest v s run;
          throughout = All-weaker Reached (Good lists book) (good same) (history lists book run) reach.1;
          kept = (run_kept v s run).1;
          one_more = counted_length (history lists book run) s.moves s.closings s.restarts (run_counted v s run);
          counted = run_counted v s run;
          none_right = λ e. none_holds s (subst (λ w. Run lists book w s) e run);
          plan_right = λ x e. plan_holds x s (subst (λ w. Run lists book w s) e run);
        }

    pub sitting_continues : (order : Order) → IsLawfulOrder order → (policy : Policy) → IsLawfulPolicy policy
        → (s : State) (q : Request) → Found lists q s → WithBook book q → sitting_refusal q ≡ None
        → (v : Verdict) (t : Search) → Sits lists book order policy (length q.base) q.allowance (begun s) v t
        → Continues lists book (sitting order policy (length q.base) q.allowance) s v t.state
    sitting_continues order lo policy lp s q f b e v t sits run =
        let next : Run lists book v t.state = sat run q f b e order lo policy lp sits in
        (next, trail_extends order policy (length q.base) q.allowance (begun s) v t sits (history lists book run), refl, law v t.state next)

    pub restart_continues : (s : State) (q : Request) → Found lists q s → restart_refusal q ≡ None → Continues lists book restart_call s unsettled (restarting s)
    restart_continues s q f e run =
        let next : Run lists book unsettled (restarting s) = restarted run q f e in
        (next, (restarting s ∷ [], refl), refl, law unsettled (restarting s) next)

    pub refused_sitting_continues : (s : State) (q : Request) → Carried (length lists) q s
        → (number place : ℕ) → sitting_refusal q ≡ Some (number, place) → Continues lists book (refused_sitting number place) s unsettled s
    refused_sitting_continues s q f number place e run =
        let next : Run lists book unsettled s = sitting_refused run q f number place e in
        (next, ([], refl), refl, law unsettled s next)

    pub refused_restart_continues : (s : State) (q : Request) → Carried (length lists) q s
        → (number place : ℕ) → restart_refusal q ≡ Some (number, place) → Continues lists book (refused_restart number place) s unsettled s
    refused_restart_continues s q f number place e run =
        let next : Run lists book unsettled s = restart_refused run q f number place e in
        (next, ([], refl), refl, law unsettled s next)
