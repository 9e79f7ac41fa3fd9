-- A sitting comes to one verdict and one search.
use Rattle.std.proofs.Common.{◌≡◌, ℕ, ◌<◌, List, [], ◌∷◌, length, get_or, Some, Option, sym, refl, ap, ◌∙◌, subst, arith, ext_get_or}
use Rattle.std.proofs.lemmas.Bool.{both_ways}
use Rattle.rules.specs.Meanings.{Meaning}
use Rattle.model.specs.Decisions.{takens}
use Rattle.model.specs.Remains.{family, Dead, Alive, Wide, Single}
use Rattle.model.specs.Moves.{State}
use Rattle.laws.specs.Orders.{asked, Order, Policy}
use Rattle.laws.specs.Sittings.{Search, Verdict, plan, after_decide, Leaves, Going, dead, wide, Turn, close, restart, decide, Sits, ends_none, ends_plan, spent, moves_on}
use Rattle.laws.proofs.Masks.{leaves_one}

same_some : (o : Option ℕ) (a b : ℕ) → o ≡ Some a → o ≡ Some b → a ≡ b
same_some o a b p q = cc

module _ (lists : List ℕ) (book : Meaning) (s : State) (ms ns : List ℕ) (l : Leaves lists book s ms) (r : Leaves lists book s ns) where
  dead_alive : Dead lists (family ms) → Alive lists (family ns) → ⊥
  dead_alive d a =
      let a' = subst (λ m. Alive lists (family m)) (sym (leaves_one lists book s ms ns l r)) a in
      let p = a' d.0 d.1 in
      both_ways (family ms d.0 p.0) (d.2 p.0) p.1

  dead_single : (x : List ℕ) → Dead lists (family ms) → Single lists (family ns) x → ⊥
  dead_single x d a =
      let a' = subst (λ m. Single lists (family m) x) (sym (leaves_one lists book s ms ns l r)) a in
      both_ways (family ms d.0 (get_or x d.0 64)) (d.2 (get_or x d.0 64)) (a' d.0 d.1).0

  wide_single : (x : List ℕ) → Wide (family ms) → Single lists (family ns) x → ⊥
  wide_single x w a =
      let a' = subst (λ m. Single lists (family m) x) (sym (leaves_one lists book s ms ns l r)) a in
      let one = a' w.0 (l.remain.meets.within w.0 w.1 w.3).group in
      w.5 (one.1 w.1 w.3 ∙ sym (one.1 w.2 w.4))

  single_single : (x y : List ℕ) → length x ≡ length lists → length y ≡ length lists → Single lists (family ms) x → Single lists (family ns) y → x ≡ y
  single_single x y e f a b =
      let b' = subst (λ m. Single lists (family m) y) (sym (leaves_one lists book s ms ns l r)) b in
      ext_get_or 64 x y (e ∙ sym f) (λ i h. let h' : i < length lists = omega arith in (b' i h').1 (get_or x i 64) (a i h').0)

module _ (lists : List ℕ) (book : Meaning) where
  none_going : (s : State) (ms : List ℕ) → Leaves lists book s ms → Dead lists (family ms) → takens s.branch ≡ [] → Going lists book s → ⊥
  none_going s ms l d e (dead ns r b some) = some e
  none_going s ms l d e (wide ns r a w) = dead_alive lists book s ms ns l r d a

  plan_going : (s : State) (ms : List ℕ) → Leaves lists book s ms → (x : List ℕ) → Single lists (family ms) x → Going lists book s → ⊥
  plan_going s ms l x p (dead ns r b some) = dead_single lists book s ns ms r l x b p
  plan_going s ms l x p (wide ns r a w) = wide_single lists book s ns ms r l x w p

module _ (lists : List ℕ) (book : Meaning) (order : Order) (policy : Policy) (room : ℕ) where
  pub going : (s t : Search) → Turn lists book order policy room s t → Going lists book s.state
  going s t (close masks l d some) = dead masks l d some
  going s t (restart masks l a w due) = wide masks l a w
  going s t (decide masks l a w not_due g c eg ec) = wide masks l a w

  same_decide : (s : Search) (ms ns : List ℕ) → ms ≡ ns → (g c h d : ℕ)
      → order.group s.events ms ≡ Some g → order.channel (asked ms ∷ s.events) ms g ≡ Some c
      → order.group s.events ns ≡ Some h → order.channel (asked ns ∷ s.events) ns h ≡ Some d
      → after_decide ms g c s ≡ after_decide ns h d s
  same_decide s ms ns e g c h d eg ec eh ed =
      let eg' : order.group s.events ns ≡ Some g = rw e at eg in
      let eq : g ≡ h = same_some (order.group s.events ns) g h eg' eh in
      let ec' : order.channel (asked ns ∷ s.events) ns h ≡ Some c = subst (λ (m : List ℕ). order.channel (asked m ∷ s.events) m h ≡ Some c) e (subst (λ (i : ℕ). order.channel (asked ms ∷ s.events) ms i ≡ Some c) eq ec) in
      let eq' : c ≡ d = same_some (order.channel (asked ns ∷ s.events) ns h) c d ec' ed in
      rw (e, eq, eq') refl

  pub turn_once : (s t u : Search) → Turn lists book order policy room s t → Turn lists book order policy room s u → t ≡ u
  turn_once s t u (close ms l d some) (close ns r e some') = refl
  turn_once s t u (close ms l d some) (restart ns r a w due) = absurd (dead_alive lists book s.state ms ns l r d a)
  turn_once s t u (close ms l d some) (decide ns r a w not_due g c eg ec) = absurd (dead_alive lists book s.state ms ns l r d a)
  turn_once s t u (restart ms l a w due) (close ns r d some) = absurd (dead_alive lists book s.state ns ms r l d a)
  turn_once s t u (restart ms l a w due) (restart ns r b v due') = refl
  turn_once s t u (restart ms l a w due) (decide ns r b v not_due g c eg ec) = absurd (not_due due)
  turn_once s t u (decide ms l a w not_due g c eg ec) (close ns r d some) = absurd (dead_alive lists book s.state ns ms r l d a)
  turn_once s t u (decide ms l a w not_due g c eg ec) (restart ns r b v due) = absurd (not_due due)
  turn_once s t u (decide ms l a w not_due g c eg ec) (decide ns r b v not_due' h d eh ed) =
      same_decide s ms ns (leaves_one lists book s.state ms ns l r) g c h d eg ec eh ed

  pub sits_once : (n : ℕ) (s : Search) (v w : Verdict) (t u : Search) → Sits lists book order policy room n s v t → Sits lists book order policy room n s w u → (v ≡ w) × (t ≡ u)
  sits_once n s v w t u (ends_none ms l d e) (ends_none ns r d' e') = (refl, refl)
  sits_once n s v w t u (ends_none ms l d e) (ends_plan ns r y f p) = absurd (dead_single lists book s.state ms ns l r y d p)
  sits_once n s v w t u (ends_none ms l d e) (spent g) = absurd (none_going lists book s.state ms l d e g)
  sits_once n s v w t u (ends_none ms l d e) (moves_on {t = m} turn rest) = absurd (none_going lists book s.state ms l d e (going s m turn))
  sits_once n s v w t u (ends_plan ms l x e p) (ends_none ns r d f) = absurd (dead_single lists book s.state ns ms r l x d p)
  sits_once n s v w t u (ends_plan ms l x e p) (ends_plan ns r y f q) = (ap plan (single_single lists book s.state ms ns l r x y e f p q), refl)
  sits_once n s v w t u (ends_plan ms l x e p) (spent g) = absurd (plan_going lists book s.state ms l x p g)
  sits_once n s v w t u (ends_plan ms l x e p) (moves_on {t = m} turn rest) = absurd (plan_going lists book s.state ms l x p (going s m turn))
  sits_once n s v w t u (spent g) (ends_none ns r d e) = absurd (none_going lists book s.state ns r d e g)
  sits_once n s v w t u (spent g) (ends_plan ns r y f q) = absurd (plan_going lists book s.state ns r y q g)
  sits_once n s v w t u (spent g) (spent h) = (refl, refl)
  sits_once n s v w t u (moves_on {t = m} turn rest) (ends_none ns r d e) = absurd (none_going lists book s.state ns r d e (going s m turn))
  sits_once n s v w t u (moves_on {t = m} turn rest) (ends_plan ns r y f q) = absurd (plan_going lists book s.state ns r y q (going s m turn))
  sits_once n s v w t u (moves_on {n = k} {t = m} turn rest) (moves_on {t = m'} turn' rest') =
      sits_once k m v w t u rest (subst (λ (x : Search). Sits lists book order policy room k x w u) (sym (turn_once s m m' turn turn')) rest')
