-- Every sitting comes to an end.
use Rattle.std.proofs.Common.{◌≡◌, ℕ, zero, suc, ◌<◌, ◌≤◌, Bool, true, false, ◌&&◌, eqb, leb, List, [], ◌∷◌, map, length, get_or, Some, None, Option, sym, refl, ◌∙◌, subst, inl, inr, arith}
use lib.ListN.{get_or-map, length-map}
use Rattle.std.proofs.lemmas.Bool.{and_parts, and_from, eqb-true, eqb-false, leb-true, le-leb, both_ways, cases_order}
use lib.Count.{ones}
use Rattle.branching.specs.Channels.{Open}
use Rattle.branching.specs.Order.{Branches, Remains}
use Rattle.branching.specs.Bits.{counts_two, two_count, trailing_lowest, below_pow}
use Rattle.rules.specs.Channels.{has}
use Rattle.rules.specs.Meanings.{Meaning, Lawful}
use Rattle.model.specs.Decisions.{takens}
use Rattle.model.specs.Words.{recorded}
use Rattle.model.specs.Remains.{family, Dead, Alive, Wide, Single}
use Rattle.model.specs.Moves.{State, nogoods}
use Rattle.laws.specs.Orders.{asked, Order, Policy}
use Rattle.laws.specs.Sizes.{IsLawfulOn}
use Rattle.laws.specs.Sittings.{Search, Verdict, none, plan, unsettled, Leaves, Due, Turn, close, restart, decide, Sits, ends_none, ends_plan, spent, moves_on, after_close, after_restart, after_decide}
use Rattle.laws.proofs.Masks.{has-Has, Has-has, leaves_words}
use Rattle.model.proofs.Largest.{find, find_some, find_none}
use Rattle.laws.proofs.Filter.{has_none, remaining, remaining_leaves}
use Rattle.laws.proofs.Once.{going}

abbrev pub or_64 : Option ℕ → ℕ
or_64 None = 64
or_64 (Some c) = c

-- The highest channel of a set, or 64.
abbrev pub top : ℕ → ℕ
top m = or_64 (find (has m) 64)

top_has : (m c : ℕ) → c < 64 → has m c ≡ true → has m (top m) ≡ true
top_has m c l h = go (find (has m) 64) refl
  where
    go : (o : Option ℕ) → find (has m) 64 ≡ o → has m (or_64 o) ≡ true
    go None e = absurd (both_ways (has m c) (find_none (has m) 64 e c l) h)
    go (Some d) e = (find_some (has m) 64 d e).1

-- Two different channels count two.
counts : (m a b : ℕ) → has m a ≡ true → has m b ≡ true → (2 ≤ ones m → ⊥) → a ≡ b
counts m a b p q f = elim (cases_order a b) [
  | inl e ↦ e
  | inr (inl l) ↦ absurd (f (two_count a b m l (has-Has m a p) (has-Has m b q)))
  | inr (inr l) ↦ absurd (f (two_count b a m l (has-Has m b q) (has-Has m a p)))
]

pub not_empty : (w : ℕ) (ts : List ℕ) → ◌≡◌ {A = List ℕ} (w ∷ ts) [] → ⊥
not_empty w ts e = let z : ◌≡◌ {A = ℕ} 0 1 = cc in omega arith

module _ (lists : List ℕ) (book : Meaning) (s : State) (masks : List ℕ) (l : Leaves lists book s masks) where
  pub some_dead : (g : ℕ) → g < length lists → eqb (get_or masks g 0) 0 ≡ true → Dead lists (family masks)
  some_dead g h e = (g, h, λ c. rw (eqb-true (get_or masks g 0) 0 e) (has_none c))

  pub all_alive : ((g : ℕ) → g < length lists → eqb (get_or masks g 0) 0 ≡ false) → Alive lists (family masks)
  all_alive f g h =
      let m = get_or masks g 0 in
      let ne = eqb-false (get_or masks g 0) 0 (f g h) in
      let pos : 0 < get_or masks g 0 = omega arith in
      let t = (trailing_lowest m m pos (below_pow m)).0 in
      (_, Has-has m _ t)

  pub two_wide : (g : ℕ) → Open masks g → Wide (family masks)
  two_wide g h =
      let m = get_or masks g 0 in
      let t = counts_two m m (below_pow m) h in
      (g, t.0, t.1, Has-has m t.0 t.3, Has-has m t.1 t.4, λ e. absurd (omega (arith, t.2)))

  pub at_top : (g : ℕ) → get_or (map top masks) g 64 ≡ top (get_or masks g 0)
  at_top g = get_or-map top masks g 0

  pub one_each : Alive lists (family masks) → ((g : ℕ) → Open masks g → ⊥) → Single lists (family masks) (map top masks)
  one_each alive f g h =
      let a = alive g h in
      let m = get_or masks g 0 in
      let small = (l.remain.meets.within g a.0 a.1).channel in
      let t = top_has m a.0 small a.1 in
      (rw (at_top g) t, λ c q. rw (at_top g) (counts m c (top m) q t (f g)))

module _ (lists : List ℕ) (book : Meaning) (lawful : Lawful book) (order : Order) (right : IsLawfulOn (length lists) order) (policy : Policy) (room : ℕ) where
  -- Where a search stands.
  pub data Stage (s : Search) : Type 0 where
    at_none : (masks : List ℕ) → Leaves lists book s.state masks → Dead lists (family masks) → takens s.state.branch ≡ [] → Stage s
    at_plan : (masks : List ℕ) → Leaves lists book s.state masks → (x : List ℕ) → length x ≡ length lists → Single lists (family masks) x → Stage s
    in_turn : (t : Search) → Turn lists book order policy room s t → Stage s

  abbrev pub stage_dead : (s : Search) (masks : List ℕ) → Leaves lists book s.state masks → Dead lists (family masks) → (ts : List ℕ) → takens s.state.branch ≡ ts → Stage s
  stage_dead s masks l d [] e = at_none masks l d e
  stage_dead s masks l d (w ∷ ts) e = in_turn (after_close s) (close masks l d (λ f. not_empty w ts (sym e ∙ f)))

  -- A restart is due.
  abbrev pub due? : Search → Bool
  due? s = leb (policy.cutoff s.restarts) s.state.since && leb (length (recorded (nogoods s.state))) room

  pub is_due_lem : (s : Search) → due? s ≡ true → Due policy room s
  is_due_lem s e = let p = and_parts (leb (policy.cutoff s.restarts) s.state.since) (leb (length (recorded (nogoods s.state))) room) e in (leb-true _ _ p.0, leb-true _ _ p.1)

  pub not_due : (s : Search) → due? s ≡ false → Due policy room s → ⊥
  not_due s e d = both_ways (due? s) e (and_from (leb (policy.cutoff s.restarts) s.state.since) (leb (length (recorded (nogoods s.state))) room) (le-leb _ _ d.0) (le-leb _ _ d.1))

  module _ (s : Search) (masks : List ℕ) (l : Leaves lists book s.state masks) (alive : Alive lists (family masks)) where
    abbrev pub stage_channel : (g : ℕ) → order.group s.events masks ≡ Some g → (o : Option ℕ) → order.channel (asked masks ∷ s.events) masks g ≡ o → due? s ≡ false → Stage s
    stage_channel g eg None ec e =
        let two : Open masks g = subst (Branches masks) eg (right.branches s.events masks l.size (leaves_words lists book s.state masks l)) in
        let f = subst (Remains masks g) ec (right.remains (asked masks ∷ s.events) masks g l.size (leaves_words lists book s.state masks l)) in
        let t = counts_two (get_or masks g 0) (get_or masks g 0) (below_pow (get_or masks g 0)) two in
        absurd (f t.0 t.3)
    stage_channel g eg (Some c) ec e =
        in_turn (after_decide masks g c s) (decide masks l alive (two_wide lists book s.state masks l g (subst (Branches masks) eg (right.branches s.events masks l.size (leaves_words lists book s.state masks l)))) (not_due s e) g c eg ec)

    abbrev pub stage_open : (g : ℕ) → order.group s.events masks ≡ Some g → (b : Bool) → due? s ≡ b → Stage s
    stage_open g eg true e = in_turn (after_restart s) (restart masks l alive (two_wide lists book s.state masks l g (subst (Branches masks) eg (right.branches s.events masks l.size (leaves_words lists book s.state masks l)))) (is_due_lem s e))
    stage_open g eg false e = stage_channel g eg (order.channel (asked masks ∷ s.events) masks g) refl e

    abbrev pub stage_alive : (o : Option ℕ) → order.group s.events masks ≡ o → Stage s
    stage_alive None eg =
        at_plan masks l (map top masks) (length-map masks top ∙ l.size) (one_each lists book s.state masks l alive (subst (Branches masks) eg (right.branches s.events masks l.size (leaves_words lists book s.state masks l))))
    stage_alive (Some g) eg = stage_open g eg (due? s) refl

  abbrev pub stage_at : (s : Search) (masks : List ℕ) → Leaves lists book s.state masks → (o : Option ℕ) → find (λ g. eqb (get_or masks g 0) 0) (length lists) ≡ o → Stage s
  stage_at s masks l None e = stage_alive s masks l (all_alive lists book s.state masks l (find_none (λ g. eqb (get_or masks g 0) 0) (length lists) e)) (order.group s.events masks) refl
  stage_at s masks l (Some g) e =
      let f = find_some (λ g. eqb (get_or masks g 0) 0) (length lists) g e in
      stage_dead s masks l (some_dead lists book s.state masks l g f.0 f.1) (takens s.state.branch) refl

  abbrev pub stage : (s : Search) → Stage s
  stage s = stage_at s (remaining lists book s.state) (remaining_leaves lists book lawful s.state) (find (λ g. eqb (get_or (remaining lists book s.state) g 0) 0) (length lists)) refl

  abbrev pub Outcome : ℕ → Search → Type 0
  Outcome n s = (v : Verdict) × (t : Search) × Sits lists book order policy room n s v t

  abbrev pub last : (s : Search) → Stage s → Outcome 0 s
  last s (at_none masks l d e) = (none, s, ends_none masks l d e)
  last s (at_plan masks l x e p) = (plan x, s, ends_plan masks l x e p)
  last s (in_turn t turn) = (unsettled, s, spent (going lists book order policy room s t turn))

  abbrev pub next : (n : ℕ) (s : Search) → ((t : Search) → Outcome n t) → Stage s → Outcome (suc n) s
  next n s go (at_none masks l d e) = (none, s, ends_none masks l d e)
  next n s go (at_plan masks l x e p) = (plan x, s, ends_plan masks l x e p)
  next n s go (in_turn t turn) = let r = go t in (r.0, r.1, moves_on turn r.2)

  abbrev pub sits_exists : (n : ℕ) (s : Search) → Outcome n s
  sits_exists zero s = last s (stage s)
  sits_exists (suc n) s = next n s (sits_exists n) (stage s)
