-- Each closing shuts out a choice that was not shut out before, so closings stay below the number of choices.
use Rattle.std.proofs.Common.{◌≡◌, ℕ, ◌<◌, ◌≤◌, true, ◌≢◌, List, [], ◌∷◌, ◌++◌, length, refl, subst, inl, inr, arith}
use lib.ListN.{length-replicate}
use Rattle.std.specs.List.{AllByRecursion}
use Rattle.std.proofs.ByRecursion.{All-append, All-weaker}
use Rattle.std.proofs.lemmas.Bool.{both_ways, cases_eq, and_parts, and_from, false≢true}
use Rattle.model.specs.Masks.{grp, chan}
use Rattle.rules.specs.Meanings.{Meaning}
use Rattle.model.specs.Decisions.{Decision, taken, refused, takens, reduced, closed, Assignment, Branch, Nogood}
use Rattle.model.specs.Choices.{holds, contains, shut, choices, combinations}
use Rattle.model.specs.Remains.{Family, Only, Gone, Obeys, Heeds, Alive}
use Rattle.model.specs.Moves.{State, start, nogoods, closing, restarting, deciding, Left, Move, close, restart, decide, called, Reach, here, more}
use Rattle.model.proofs.Tests.{refuted, any_left, any_right, any_cases, any_one, all-All, all_one, all_right}
use Rattle.model.proofs.Shut.{closes, closing_keeps, restarting_same}
use Rattle.model.proofs.Formed.{Whole, whole_run, reduced_nogoods}
use Rattle.model.proofs.Sound.{closed_new}
use Rattle.model.proofs.Count.{count, count_less, count-<, in_choices, length_choices}
use Rattle.model.proofs.Chosen.{chosen_length, chosen_free, none_held, set_held, set_cases, branch_choice, inside, chosen_contains, chosen_only, chosen_entries, empty_at}

-- A choice that has what another has is shut out where that is.
abbrev Within : List ℕ → List ℕ → Type 0
Within x y = (v : ℕ) → holds x v ≡ true → holds y v ≡ true

contains_more : (x y : List ℕ) → Within x y → (ws : List ℕ) → contains x ws ≡ true → contains y ws ≡ true
contains_more x y f [] e = refl
contains_more x y f (w ∷ ws) e = let q = and_parts (holds x w) (contains x ws) e in and_from _ _ (f w q.0) (contains_more x y f ws q.1)

shut_more : (x y : List ℕ) → Within x y → (ns : List (List ℕ)) → shut ns x ≡ true → shut ns y ≡ true
shut_more x y f [] e = e
shut_more x y f (n ∷ ns) e =
    elim (any_cases (contains x) (n ∷ []) ns e) [
      | inl h ↦ any_left (contains y) (n ∷ []) ns (one_more (contains_more x y f n (any_one (contains x) n h)))
      | inr h ↦ any_right (contains y) (n ∷ []) ns (shut_more x y f ns h)
    ]
  where
    one_more : contains y n ≡ true → shut (n ∷ []) y ≡ true
    one_more h = any_left (contains y) (n ∷ []) [] (rw h)

-- The empty choice is never shut out.
empty_contains : (lists : List ℕ) (ns : List ℕ) → Nogood lists ns → contains (branch_choice lists []) ns ≡ true → ⊥
empty_contains lists [] g e = g.some refl
empty_contains lists (w ∷ ns) g e = none_held (branch_choice lists []) w (empty_at (length lists) (grp w)) (and_parts (holds (branch_choice lists []) w) _ e).0

empty_open : (lists : List ℕ) (base : List (List ℕ)) → AllByRecursion (Nogood lists) base → shut base (branch_choice lists []) ≡ true → ⊥
empty_open lists [] g e = false≢true e
empty_open lists (ns ∷ base) g e =
    elim (any_cases (contains (branch_choice lists [])) (ns ∷ []) base e) [
      | inl h ↦ empty_contains lists ns g.0 (any_one (contains (branch_choice lists [])) ns h)
      | inr h ↦ empty_open lists base g.1 h
    ]

module _ (lists : List ℕ) where
  all_nogoods : (s : State) → Whole lists s → AllByRecursion (Nogood lists) (nogoods s)
  all_nogoods s h = All-append (Nogood lists) s.base (reduced s.branch) h.base (reduced_nogoods lists s.branch h.branch)

  -- The choice of a closed branch is within that of the branch, and lacks the last that was taken.
  closed_within : (ds : List Decision) → Branch lists ds → Within (branch_choice lists (closed ds)) (branch_choice lists ds)
  closed_within [] b v h = h
  closed_within (taken w ∷ ds) b v h =
      elim (cases_eq (grp v) (grp w)) [
        | inl e ↦ absurd (none_held (branch_choice lists ds) v (rw e (chosen_free (length lists) w ds b.1)) h)
        | inr ne ↦ set_held (branch_choice lists ds) w v ne h
      ]
  closed_within (refused w ∷ ds) b v h = closed_within ds b.2 v h

  closed_lacks : (ds : List Decision) → Branch lists ds → takens ds ≢ [] → contains (branch_choice lists (closed ds)) (takens ds) ≡ true → ⊥
  closed_lacks [] b some e = some refl
  closed_lacks (taken w ∷ ds) b some e =
      none_held (branch_choice lists ds) w (chosen_free (length lists) w ds b.1) (all_one (holds (branch_choice lists ds)) w (all_right (holds (branch_choice lists ds)) (takens ds) (w ∷ []) e))
  closed_lacks (refused w ∷ ds) b some e = closed_lacks ds b.2 some e

  -- The assignments taken are not shut out.
  abbrev Untried : State → Type 0
  Untried s = shut (nogoods s) (branch_choice lists s.branch) ≡ true → ⊥

  untried_closing : (s : State) → Whole lists s → takens s.branch ≢ [] → Untried s → Untried (closing s)
  untried_closing s whole some before e =
      elim (any_cases (contains x) s.base (reduced (closed s.branch)) e) [
        | inl h ↦ before (any_left (contains y) s.base (reduced s.branch) (shut_more x y within s.base h))
        | inr h ↦ elim (closed_new x s.branch h) [
          | inl i ↦ before (any_right (contains y) s.base (reduced s.branch) (shut_more x y within (reduced s.branch) i))
          | inr i ↦ closed_lacks s.branch whole.branch some i
        ]
      ]
    where
      x : List ℕ
      x = branch_choice lists (closed s.branch)

      y : List ℕ
      y = branch_choice lists s.branch

      within : Within (branch_choice lists (closed s.branch)) (branch_choice lists s.branch)
      within = closed_within s.branch whole.branch

  untried_restarting : (s : State) → Whole lists s → Untried (restarting s)
  untried_restarting s whole e = empty_open lists (nogoods s) (all_nogoods s whole) (rw restarting_same at e)

  -- Deciding: what the new choice has remains, and all but the new assignment is alone in its group.
  module _ (k : Family) (w : ℕ) (x : List ℕ) (kept : k (grp w) (chan w) ≡ true) (held : (v : ℕ) → holds x v ≡ true → (k (grp v) (chan v) ≡ true) × (v ≢ w → Only k v)) where
    reduced_open : (ds : List Decision) → AllByRecursion (Obeys k) ds → shut (reduced ds) x ≡ true → ⊥
    reduced_open [] o e = false≢true e
    reduced_open (taken v ∷ ds) o e = reduced_open ds o.1 e
    reduced_open (refused v ∷ ds) o e =
        elim (any_cases (contains x) (reduced ds) ((takens ds ++ v ∷ []) ∷ []) e) [
          | inl h ↦ reduced_open ds o.1 h
          | inr h ↦ both_ways _ o.0 (held v (all_one (holds x) v (all_right (holds x) (takens ds) (v ∷ []) (any_one (contains x) (takens ds ++ v ∷ []) h)))).0
        ]

    -- No assignment of such a nogood is w, so all are alone in their groups, and the first should be gone.
    none_is : (All-others : List ℕ) → AllByRecursion (λ v. v ≢ w → Only k v) All-others → (ns : List ℕ) → AllByRecursion (λ u. AllByRecursion (λ v. v ≢ u → Only k v) All-others → Gone k u) ns → AllByRecursion (λ v. v ≢ w → Only k v) ns → AllByRecursion (Only k) ns
    none_is os f [] g h = tt
    none_is os f (u ∷ ns) g h = (h.0 (λ e. both_ways (k (grp w) (chan w)) (subst (λ u. Gone k u) e (g.0 (rw e f))) kept), none_is os f ns g.1 h.1)

    nogood_open : (ns : List ℕ) → Nogood lists ns → Heeds k ns → contains x ns ≡ true → ⊥
    nogood_open [] n g e = n.some refl
    nogood_open (u ∷ ns) n g e =
        both_ways _ (g.0 (All-weaker (Only k) (λ v. v ≢ u → Only k v) (λ v o _. o) (u ∷ ns) only)) (held u hs.0).0
      where
        hs : AllByRecursion (λ v. holds x v ≡ true) (u ∷ ns)
        hs = all-All (holds x) (u ∷ ns) e

        others : AllByRecursion (λ v. v ≢ w → Only k v) (u ∷ ns)
        others = All-weaker (λ v. holds x v ≡ true) (λ v. v ≢ w → Only k v) (λ v h. (held v h).1) (u ∷ ns) hs

        only : AllByRecursion (Only k) (u ∷ ns)
        only = none_is (u ∷ ns) others (u ∷ ns) g others

    base_open : (base : List (List ℕ)) → AllByRecursion (Nogood lists) base → AllByRecursion (Heeds k) base → shut base x ≡ true → ⊥
    base_open [] n g e = false≢true e
    base_open (ns ∷ base) n g e =
        elim (any_cases (contains x) (ns ∷ []) base e) [
          | inl h ↦ nogood_open ns n.0 g.0 (any_one (contains x) ns h)
          | inr h ↦ base_open base n.1 g.1 h
        ]

  alive_kept : (k : Family) → Alive lists k → (v : ℕ) → Only k v × Assignment lists v → k (grp v) (chan v) ≡ true
  alive_kept k alive v o = let c = alive (grp v) o.1.group in subst (λ c. k (grp v) c ≡ true) (o.0 c.0 c.1) c.1

  untried_deciding : (book : Meaning) (s : State) → Whole lists s → (k : Family) → Left lists book s k → Alive lists k → (w : ℕ) → k (grp w) (chan w) ≡ true → Untried (deciding w s)
  untried_deciding book s whole k r alive w kept e =
      elim (any_cases (contains x) s.base (reduced s.branch) e) [
        | inl h ↦ base_open k w x kept held s.base whole.base r.meets.heeded h
        | inr h ↦ reduced_open k w x kept held s.branch r.meets.decided h
      ]
    where
      x : List ℕ
      x = branch_choice lists (taken w ∷ s.branch)

      held : (v : ℕ) → holds (branch_choice lists (taken w ∷ s.branch)) v ≡ true → (k (grp v) (chan v) ≡ true) × (v ≢ w → Only k v)
      held v h =
          elim (set_cases (branch_choice lists s.branch) w v (inside lists w s.branch (r.meets.within (grp w) (chan w) kept)) h) [
            | inl e ↦ (rw e kept, λ ne. absurd (ne e))
            | inr i ↦ let o = chosen_only lists k s.branch whole.branch r.meets.decided v i in (alive_kept k alive v o, λ _. o.0)
          ]

module _ (lists : List ℕ) (book : Meaning) (room : ℕ) where
  untried_move : (s t : State) → Move lists book room s t → Whole lists s → Untried lists s → Untried lists t
  untried_move s t (close k r dead some) whole before = untried_closing lists s whole some before
  untried_move s t (restart k r alive wide c one due fits) whole before = untried_restarting lists s whole
  untried_move s t (decide k r alive w c kept other ne) whole before = untried_deciding lists book s whole k r alive w kept
  untried_move s t (called one fits) whole before = untried_restarting lists s whole

  untried_run : (s : State) → Reach lists book room start s → Untried lists s
  untried_run s here e = false≢true e
  untried_run s (more {t = m} run move) e = untried_move m s move (whole_run lists book room m run) (untried_run m run) e

  -- How many choices are shut out.
  abbrev shut_count : State → ℕ
  shut_count s = count (shut (nogoods s)) (choices lists)

  counted_closing : (s : State) → Whole lists s → takens s.branch ≢ [] → Untried lists s → shut_count s < shut_count (closing s)
  counted_closing s whole some fresh =
      count_less (shut (nogoods s)) (shut (nogoods (closing s))) (λ x e. closing_keeps s x some e) y (refuted _ fresh)
      (any_right (contains y) s.base (reduced (closed s.branch)) (closes y s.branch some (chosen_contains lists s.branch whole.branch)))
      (choices lists) (in_choices lists y (chosen_length (length lists) s.branch) (chosen_entries lists s.branch whole.branch))
    where
      y : List ℕ
      y = branch_choice lists s.branch

  counted_move : (s t : State) → Move lists book room s t → Whole lists s → Untried lists s → s.closings ≤ shut_count s → t.closings ≤ shut_count t
  counted_move s t (close k r dead some) whole fresh before = let h = counted_closing s whole some fresh in omega arith
  counted_move s t (restart k r alive wide c one due fits) whole fresh before = rw restarting_same before
  counted_move s t (decide k r alive w c kept other ne) whole fresh before = before
  counted_move s t (called one fits) whole fresh before = rw restarting_same before

  counted_run : (s : State) → Reach lists book room start s → s.closings ≤ shut_count s
  counted_run s here = omega arith
  counted_run s (more {t = m} run move) = counted_move m s move (whole_run lists book room m run) (untried_run m run) (counted_run m run)

  pub closings_run : (s : State) → Reach lists book room start s → s.closings < combinations lists
  closings_run s run = join s.closings (shut_count s) (length (choices lists)) (combinations lists) (counted_run s run)
      (count-< (shut (nogoods s)) (branch_choice lists []) (choices lists) (refuted _ (empty_open lists (nogoods s) (all_nogoods lists s (whole_run lists book room s run))))
      (in_choices lists (branch_choice lists []) (length-replicate (length lists) 64) (λ g l. inl (empty_at (length lists) g))))
      (length_choices lists)
    where
      join : (a b c d : ℕ) → a ≤ b → b < c → c ≡ d → a < d
      join a b c d p q r = omega arith
