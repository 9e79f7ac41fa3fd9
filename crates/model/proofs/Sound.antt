-- A plan that has all assignments taken and is not shut out remains, so a dead state has none.
use Rattle.std.proofs.Common.{◌≡◌, ℕ, ◌<◌, Bool, true, false, not, ◌&&◌, eqb, ltb, ◌≢◌, ◌⊎◌, List, [], ◌∷◌, ◌++◌, length, get_or, Some, None, Option, sym, refl, ◌∙◌, subst, inl, inr}
use Rattle.std.specs.List.{AllByRecursion}
use Rattle.std.proofs.lemmas.Bool.{both_ways, cases_Bool, cases_eq, and_parts, and_from, and_right, ltb-true, eqb-true, lt-ltb, eq-eqb, not-true, not-false, false≢true}
use Rattle.rules.specs.Plans.{Listed}
use Rattle.model.specs.Masks.{grp, chan}
use Rattle.rules.specs.Meanings.{Meaning, Lawful}
use Rattle.rules.proofs.Bindings.{binding}
use Rattle.model.specs.Decisions.{Decision, taken, refused, takens, reduced, closed, Assignment, Nogood}
use Rattle.rules.specs.Plans.{Complete, Breaks, Plan}
use Rattle.model.specs.Choices.{holds, contains, shut}
use Rattle.model.specs.Remains.{Family, Only, Obeys, Heeds, Meets, Dead, Single}
use Rattle.model.specs.Moves.{State, start, nogoods, closing, Left, EndedNone, Move, close, restart, decide, called, Reach, here, more}
use Rattle.rules.proofs.Firsts.{seek}
use Rattle.model.proofs.Tests.{refuted, any_left, any_right, any_cases, any_one, one_any, all_left, all_right, all_one, all_both, All-all, none_left, none_right, of_all}
use Rattle.model.proofs.Shut.{restarting_same}
use Rattle.model.proofs.Formed.{Whole, whole_run}

-- Every rule permits the choice.
abbrev pub Permitted : Meaning → List ℕ → Type 0
Permitted book x = (i g h : ℕ) → book.ends i ≡ Some (g, h) → book.permits i (get_or x g 64) (get_or x h 64) ≡ true

abbrev breaks : Meaning → List ℕ → ℕ → Option (ℕ × ℕ) → Bool
breaks book x i (Some p) = not (book.permits i (get_or x p.0 64) (get_or x p.1 64))
breaks book x i None = false

pub breaks_or_not : (book : Meaning) → Lawful book → (x : List ℕ) → Breaks book x ⊎ Permitted book x
breaks_or_not book lawful x = elim (seek (λ i. breaks book x i (book.ends i)) book.count) [ inl f ↦ inl (found f.0 (book.ends f.0) refl f.2) | inr f ↦ inr (λ i g h e. not-false _ (subst (λ o. breaks book x i o ≡ false) e (f i (binding book lawful i g h e).counted))) ]
  where
    found : (i : ℕ) (o : Option (ℕ × ℕ)) → book.ends i ≡ o → breaks book x i o ≡ true → Breaks book x
    found i (Some p) e t = (i, p.0, p.1, e, not-true _ t)
    found i None e t = absurd (false≢true t)

pub permitted_unbroken : (book : Meaning) (x : List ℕ) → Permitted book x → Breaks book x → ⊥
permitted_unbroken book x p b = both_ways _ b.4 (p b.0 b.1 b.2 b.3)

-- The family of the channels of a choice.
abbrev pub one : List ℕ → List ℕ → Family
one lists x g c = ltb g (length lists) && eqb (get_or x g 64) c

module _ (lists : List ℕ) (x : List ℕ) where
  pub one_is : (g c : ℕ) → one lists x g c ≡ true → get_or x g 64 ≡ c
  one_is g c e = eqb-true _ _ (and_parts (ltb g (length lists)) _ e).1

  pub one_group : (g c : ℕ) → one lists x g c ≡ true → g < length lists
  one_group g c e = ltb-true _ _ (and_parts (ltb g (length lists)) _ e).0

  pub one_has : (g : ℕ) → g < length lists → one lists x g (get_or x g 64) ≡ true
  one_has g l = and_from _ _ (lt-ltb g (length lists) l) (eq-eqb (get_or x g 64) (get_or x g 64) refl)

  pub one_obeys : (ds : List Decision) → contains x (takens ds) ≡ true → shut (reduced ds) x ≡ false → AllByRecursion (Obeys (one lists x)) ds
  one_obeys [] t s = tt
  one_obeys (taken w ∷ ds) t s = (
    (λ c e. sym (one_is (grp w) c e) ∙ eqb-true _ _ (all_one (holds x) w (all_right (holds x) (takens ds) (w ∷ []) t))),
    one_obeys ds (all_left (holds x) (takens ds) (w ∷ []) t) s,
  )
  one_obeys (refused w ∷ ds) t s = (
    and_right (ltb (grp w) (length lists)) (holds x w) (refuted (holds x w) (λ h.
        both_ways _ (none_right (contains x) (reduced ds) ((takens ds ++ w ∷ []) ∷ []) s)
        (one_any (contains x) (takens ds ++ w ∷ []) (all_both (holds x) (takens ds) (w ∷ []) t (and_from (holds x w) true h refl))))),
    one_obeys ds t (none_left (contains x) (reduced ds) ((takens ds ++ w ∷ []) ∷ []) s),
  )

  -- With all but w of a nogood alone in their groups, a choice that has w has all of it.
  pub rest_held : (w : ℕ) → holds x w ≡ true → (ns : List ℕ) → AllByRecursion (Assignment lists) ns → AllByRecursion (λ v. v ≢ w → Only (one lists x) v) ns → AllByRecursion (λ v. holds x v ≡ true) ns
  rest_held w h [] l o = tt
  rest_held w h (v ∷ ns) l o = (
    elim (cases_eq v w) [ inl e ↦ rw e h | inr ne ↦ eq-eqb _ _ (o.0 ne (get_or x (grp v) 64) (one_has (grp v) l.0.group)) ],
    rest_held w h ns l.1 o.1,
  )

  pub one_heeds : (ns : List ℕ) → AllByRecursion (Assignment lists) ns → contains x ns ≡ false → Heeds (one lists x) ns
  one_heeds ns l s = of_all _ (λ w o. refuted (one lists x (grp w) (chan w)) (λ e.
      both_ways _ s (All-all (holds x) ns (rest_held w (and_parts (ltb (grp w) (length lists)) (holds x w) e).1 ns l o)))) ns

  pub one_heeds_all : (base : List (List ℕ)) → AllByRecursion (Nogood lists) base → shut base x ≡ false → AllByRecursion (Heeds (one lists x)) base
  one_heeds_all [] n s = tt
  one_heeds_all (ns ∷ base) n s = (
    one_heeds ns n.0.listed (refuted _ (λ h. both_ways _ s (any_left (contains x) (ns ∷ []) base (one_any (contains x) ns h)))),
    one_heeds_all base n.1 (none_right (contains x) (ns ∷ []) base s),
  )

  pub one_meets : (book : Meaning) (s : State) → Lawful book → book.groups ≡ length lists → Whole lists s → Complete lists x → Permitted book x
      → contains x (takens s.branch) ≡ true → shut (nogoods s) x ≡ false → Meets lists book s.base s.branch (one lists x)
  one_meets book s lawful same whole full fine t open' = record {
    within = λ g c e. subst (Listed lists g) (one_is g c e) (full.listed g (one_group g c e));
    decided = one_obeys s.branch t (none_right (contains x) s.base (reduced s.branch) open');
    across = λ i g h a e k. (get_or x h 64, one_has h (subst (λ n. h < n) same (binding book lawful i g h e).second), subst (λ a. book.permits i a (get_or x h 64) ≡ true) (one_is g a k) (fine i g h e));
    back = λ i g h b e k. (get_or x g 64, one_has g (subst (λ n. g < n) same (binding book lawful i g h e).first), subst (λ b. book.permits i (get_or x g 64) b ≡ true) (one_is h b k) (fine i g h e));
    heeded = one_heeds_all s.base whole.base (none_left (contains x) s.base (reduced s.branch) open');
  }

  pub dead_none : (book : Meaning) (s : State) → Lawful book → book.groups ≡ length lists → Whole lists s → (k : Family) → Left lists book s k → Dead lists k → Complete lists x → Permitted book x
      → contains x (takens s.branch) ≡ true → shut (nogoods s) x ≡ false → ⊥
  dead_none book s lawful same whole k r dead full fine t open' =
      both_ways _ (dead.2 (get_or x dead.0 64)) (r.largest (one lists x) (one_meets book s lawful same whole full fine t open') dead.0 (get_or x dead.0 64) (one_has dead.0 dead.1))

-- What a closing shuts out anew has all that was taken.
pub closed_new : (x : List ℕ) (ds : List Decision) → shut (reduced (closed ds)) x ≡ true → (shut (reduced ds) x ≡ true) ⊎ (contains x (takens ds) ≡ true)
closed_new x [] e = inl e
closed_new x (taken w ∷ ds) e = elim (any_cases (contains x) (reduced ds) ((takens ds ++ w ∷ []) ∷ []) e) [ inl h ↦ inl h | inr h ↦ inr (any_one (contains x) (takens ds ++ w ∷ []) h) ]
closed_new x (refused w ∷ ds) e = elim (closed_new x ds e) [ inl h ↦ inl (any_left (contains x) (reduced ds) ((takens ds ++ w ∷ []) ∷ []) h) | inr h ↦ inr h ]

module _ (lists : List ℕ) (book : Meaning) (room : ℕ) (lawful : Lawful book) (same : book.groups ≡ length lists) (x : List ℕ) (full : Complete lists x) where
  abbrev BreaksIfShut : State → Type 0
  BreaksIfShut s = shut (nogoods s) x ≡ true → Breaks book x

  sound_closing : (s : State) (k : Family) → Left lists book s k → Dead lists k → Whole lists s → BreaksIfShut s → BreaksIfShut (closing s)
  sound_closing s k r dead whole before e = elim (cases_Bool (shut (nogoods s) x)) [ inl h ↦ before h | inr open' ↦ elim (breaks_or_not book lawful x) [ inl b ↦ b | inr fine ↦ absurd (dead_none lists x book s lawful same whole k r dead full fine (all_taken_lem open') open') ] ]
    where
      all_taken_lem : shut (nogoods s) x ≡ false → contains x (takens s.branch) ≡ true
      all_taken_lem open' = elim (any_cases (contains x) s.base (reduced (closed s.branch)) e) [
        | inl h ↦ absurd (both_ways _ open' (any_left (contains x) s.base (reduced s.branch) h))
        | inr h ↦ elim (closed_new x s.branch h) [ inl h ↦ absurd (both_ways _ open' (any_right (contains x) s.base (reduced s.branch) h)) | inr t ↦ t ]
      ]

  sound_move : (s t : State) → Move lists book room s t → Whole lists s → BreaksIfShut s → BreaksIfShut t
  sound_move s t (close k r dead some) whole before = sound_closing s k r dead whole before
  sound_move s t (restart k r alive wide c one due fits) whole before = rw restarting_same before
  sound_move s t (decide k r alive w c kept other ne) whole before = before
  sound_move s t (called one fits) whole before = rw restarting_same before

  pub sound_run : (s : State) → Reach lists book room start s → BreaksIfShut s
  sound_run s here e = absurd (false≢true e)
  sound_run s (more {t = m} run move) e = sound_move m s move (whole_run lists book room m run) (sound_run m run) e

pub none_run : (lists : List ℕ) (book : Meaning) (room : ℕ) → Lawful book → book.groups ≡ length lists → (s : State) → Reach lists book room start s → EndedNone lists book s → (x : List ℕ) → Plan lists book x → ⊥
none_run lists book room lawful same s run none x plan =
    elim (breaks_or_not book lawful x) [
      | inl b ↦ plan.kept b
      | inr fine ↦ dead_none lists x book s lawful same (whole_run lists book room s run) none.0 none.1 none.2 plan.complete fine (rw none.3 refl)
          (refuted _ (λ h. plan.kept (sound_run lists book room lawful same x plan.complete s run h)))
    ]

pub plan_run : (lists : List ℕ) (book : Meaning) (s : State) → Lawful book → book.groups ≡ length lists → (k : Family) → Left lists book s k → (x : List ℕ) → length x ≡ length lists → Single lists k x → Plan lists book x
plan_run lists book s lawful same k r x size only = record {
  complete = record { size = size; listed = λ g l. r.meets.within g (get_or x g 64) (only g l).0 };
  kept = permitted_unbroken book x λ i g h e.
      let far = r.meets.across i g h (get_or x g 64) e (only g (subst (λ n. g < n) same (binding book lawful i g h e).first)).0 in
      subst (λ b. book.permits i (get_or x g 64) b ≡ true) ((only h (subst (λ n. h < n) same (binding book lawful i g h e).second)).1 far.0 far.1) far.2;
}
