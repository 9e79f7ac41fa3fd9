-- What last conflict answers and holds, by its law.
use Rattle.std.specs.Prelude.{◌≡◌, ℕ, zero, suc, Bool, true, false, ◌+◌, ◌<◌, ◌≤◌, cond, List, [], ◌∷◌, length, Contains, Some, None, Option, slice_get, refl}
use Rattle.std.proofs.Common.{sym, ap, subst, ◌∙◌, arith}
use Rattle.std.proofs.lemmas.Bool.{cond-true, cond-false, cond_both, le-leb, leb-true, lt-ltb, ltb-true, eq-eqb, eqb-true, false_from_ne_true, both_ways, and_parts, not_from_false, not-true}
use Rattle.std.proofs.lemmas.List.{length_push}
use Rattle.std.proofs.lemmas.List.Folds.{Any-from_list_any, list_any_at}
use Rattle.std.proofs.lemmas.Option.{none-some, same_Some, cond_some}
use Rattle.std.specs.Cmp.Derive.{both_true}
use Rattle.branching.specs.Channels.{Open, open?, count}
use Rattle.branching.specs.Order.{OrderMeaning}
use Rattle.branching.specs.Layer.{Layer, last_conflict, earliest, ready, member, fresh, waiting, group_by, grouped_by}
use Rattle.branching.specs.Laws.{NoneOpen, NotReady, SetBecomes, CanWait, AtMostK, Later, Answers, LastConflictLaw}

-- ---- the set
passes : (ms : List ℕ) (g : ℕ) → Open ms g → open? ms g ≡ true
passes ms g o = le-leb 2 (count ms g) o

fails : (ms : List ℕ) (g : ℕ) → (Open ms g → ⊥) → open? ms g ≡ false
fails ms g shut = false_from_ne_true (open? ms g) (λ e. shut (leb-true 2 (count ms g) e))

earliest_at : (gs ms : List ℕ) (i g : ℕ) → slice_get gs i ≡ Some g → Open ms g → ((j h : ℕ) → j < i → slice_get gs j ≡ Some h → Open ms h → ⊥) → earliest gs ms ≡ Some g
earliest_at [] ms i g e o none = absurd (none-some g e)
earliest_at (x ∷ gs) ms zero g e o none =
    let same : x ≡ g = same_Some x g e in
    cond-true (open? ms x) (Some x) (earliest gs ms) (passes ms x (subst (Open ms) (sym same) o)) ∙ e
earliest_at (x ∷ gs) ms (suc i) g e o none = cond-false (open? ms x) (Some x) (earliest gs ms) (fails ms x (none 0 x (omega arith) refl)) ∙ earliest_at gs ms i g e o (λ j h l. none (suc j) h (omega arith))

none_earliest : (gs ms : List ℕ) → NoneOpen gs ms → earliest gs ms ≡ None
none_earliest [] ms shut = refl
none_earliest (x ∷ gs) ms shut = cond-false (open? ms x) (Some x) (earliest gs ms) (fails ms x (shut x (0, omega arith, refl))) ∙ none_earliest gs ms (λ h w. let l = w.1 in shut h (suc w.0, omega arith, w.2))

contains_member : (g : ℕ) (gs : List ℕ) → Contains gs g → member g gs ≡ true
contains_member g gs w = list_any_at _ gs w.0 g w.1 (eq-eqb _ g w.2)

member_contains : (g : ℕ) (gs : List ℕ) → member g gs ≡ true → Contains gs g
member_contains g gs e =
    let w = Any-from_list_any _ gs e in
    let same : w.1 ≡ g = eqb-true w.1 g w.4 in
    subst (Contains gs) same (w.0, w.2, w.3)

-- ---- the candidate
none_ready : (c : Option ℕ) (ms : List ℕ) → NotReady c ms → ready c ms ≡ None
none_ready None ms shut = refl
none_ready (Some g) ms shut = cond-false (open? ms g) (Some g) None (fails ms g (shut g refl))

ready_at : (c : Option ℕ) (ms : List ℕ) (g : ℕ) → c ≡ Some g → Open ms g → ready c ms ≡ Some g
ready_at c ms g e o = ap (λ x. ready x ms) e ∙ cond-true (open? ms g) (Some g) None (passes ms g o)

ready_from : (c : Option ℕ) (ms : List ℕ) (g : ℕ) → ready c ms ≡ Some g → c ≡ Some g
ready_from None ms g e = absurd (none-some g e)
ready_from (Some h) ms g e = ap Some (cond_some (open? ms h) h g e).1

module _ {H : Type 0} where
  fresh_from : (s : Layer H) (g : ℕ) → CanWait s g → fresh s.limit s.kept s.candidate g ≡ true
  fresh_from s g w =
      ap (λ c. fresh s.limit s.kept c g) w.none
      ∙ both_true (lt-ltb (length s.kept) s.limit w.space) (not_from_false (member g s.kept) (false_from_ne_true (member g s.kept) (λ e. w.lacks (member_contains g s.kept e))))

  waits_by : (s : Layer H) (g : ℕ) (c : Option ℕ) → s.candidate ≡ c → fresh s.limit s.kept c g ≡ true → CanWait s g
  waits_by s g None e h =
      let p = and_parts _ _ h in
      record { none = e; space = ltb-true (length s.kept) s.limit p.0; lacks = λ w. both_ways (member g s.kept) (not-true (member g s.kept) p.1) (contains_member g s.kept w) }
  waits_by s g (Some x) e h = absurd (both_ways false refl h)

  can_wait : (s : Layer H) (g : ℕ) → fresh s.limit s.kept s.candidate g ≡ true → CanWait s g
  can_wait s g h = waits_by s g s.candidate refl h

-- ---- what it holds
module _ {H : Type 0} (o : OrderMeaning H) where
  heard_by : Layer H → ℕ → Bool → Layer H
  heard_by s g b = record { limit = s.limit; kept = s.kept; candidate = cond b (Some g) s.candidate; below = o.heard s.below g }

  becomes : (s : Layer H) (g : ℕ) → CanWait s g → (last_conflict o).heard s g ≡ record { limit = s.limit; kept = s.kept; candidate = Some g; below = o.heard s.below g }
  unfolding heard_by
  becomes s g w = ap (heard_by s g) (fresh_from s g w)

  passes_by : (s : Layer H) (g : ℕ) → (CanWait s g → ⊥) → (last_conflict o).heard s g ≡ record { limit = s.limit; kept = s.kept; candidate = s.candidate; below = o.heard s.below g }
  unfolding heard_by
  passes_by s g cannot = ap (heard_by s g) (false_from_ne_true (fresh s.limit s.kept s.candidate g) (λ e. cannot (can_wait s g e)))

  answers_by : (s : Layer H) (ms : List ℕ) (a b : Option ℕ) → earliest s.kept ms ≡ a → ready s.candidate ms ≡ b → Answers (last_conflict o) s ms (group_by o s ms a b) (grouped_by o s ms a b)
  answers_by s ms a b p q = record {
    group = ap (λ x. group_by o s ms x (ready s.candidate ms)) p ∙ ap (group_by o s ms a) q;
    grouped = ap (λ x. grouped_by o s ms x (ready s.candidate ms)) p ∙ ap (grouped_by o s ms a) q;
  }

  set_by : (s : Layer H) (ms : List ℕ) (a b : Option ℕ) → ((g : ℕ) → b ≡ Some g → s.candidate ≡ Some g) → SetBecomes s (grouped_by o s ms a b)
  set_by s ms (Some g) b h = SetBecomes.stays refl
  set_by s ms None (Some g) h = SetBecomes.gains g (h g refl) refl
  set_by s ms None None h = SetBecomes.emptied refl

  below_by : (s t : Layer H) (ms : List ℕ) (a b : Option ℕ) → Later o s.below t.below → Later o s.below (grouped_by o t ms a b).below
  below_by s t ms (Some g) b h = h
  below_by s t ms None (Some g) h = h
  below_by s t ms None None h = Later.grouped h ms

  below : (s t : Layer H) → Later (last_conflict o) s t → Later o s.below t.below
  below s t Later.now = Later.now
  below s t (Later.grouped {i = i} l ms) = below_by s i ms (earliest i.kept ms) (ready i.candidate ms) (below s i l)
  below s t (Later.channeled {i = i} l ms g) = Later.channeled (below s i l) ms g
  below s t (Later.told {i = i} l g) = Later.told (below s i l) g

  limit_by : (t : Layer H) (ms : List ℕ) (a b : Option ℕ) → (grouped_by o t ms a b).limit ≡ t.limit
  limit_by t ms (Some g) b = refl
  limit_by t ms None (Some g) = refl
  limit_by t ms None None = refl

  limit : (s t : Layer H) → Later (last_conflict o) s t → t.limit ≡ s.limit
  limit s t Later.now = refl
  limit s t (Later.grouped {i = i} l ms) = limit_by i ms (earliest i.kept ms) (ready i.candidate ms) ∙ limit s i l
  limit s t (Later.channeled {i = i} l ms g) = limit s i l
  limit s t (Later.told {i = i} l g) = limit s i l

  within_by : (t : Layer H) (ms : List ℕ) (a b : Option ℕ) → ((g : ℕ) → b ≡ Some g → t.candidate ≡ Some g) → AtMostK t → AtMostK (grouped_by o t ms a b)
  within_by t ms (Some g) b h w = w
  within_by t ms None (Some g) h w =
      let one : waiting t.candidate ≡ 1 = ap waiting (h g refl) in
      let long = length_push t.kept g in
      omega (arith, w, one, long)
  within_by t ms None None h w = omega arith

  within_heard : (t : Layer H) (g : ℕ) → AtMostK t → AtMostK ((last_conflict o).heard t g)
  within_heard t g w =
      cond_both (fresh t.limit t.kept t.candidate g) (Some g) t.candidate (λ c. length t.kept + waiting c ≤ t.limit)
      (λ e. let space = (can_wait t g e).space in omega arith)
      (λ _. w)

  within : (s t : Layer H) → Later (last_conflict o) s t → AtMostK s → AtMostK t
  within s t Later.now w = w
  within s t (Later.grouped {i = i} l ms) w = within_by i ms (earliest i.kept ms) (ready i.candidate ms) (λ g e. ready_from i.candidate ms g e) (within s i l w)
  within s t (Later.channeled {i = i} l ms g) w = within s i l w
  within s t (Later.told {i = i} l g) w = within_heard i g (within s i l w)

  pub last_conflict_law : LastConflictLaw o
  last_conflict_law = record {
    set_first = λ s ms g e. answers_by s ms (Some g) (ready s.candidate ms) (earliest_at s.kept ms e.place g e.member e.two e.earliest) refl;
    candidate_next = λ s ms g shut c two. answers_by s ms None (Some g) (none_earliest s.kept ms shut) (ready_at s.candidate ms g c two);
    below_last = λ s ms shut no. answers_by s ms None None (none_earliest s.kept ms shut) (none_ready s.candidate ms no);
    added = λ s ms. set_by s ms (earliest s.kept ms) (ready s.candidate ms) (λ g e. ready_from s.candidate ms g e);
    channel = λ s ms g. refl;
    channeled = λ s ms g. refl;
    becomes = becomes;
    passes = passes_by;
    below = below;
    limit = limit;
    within = within;
  }
