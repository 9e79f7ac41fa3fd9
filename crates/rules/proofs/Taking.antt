-- A test of the channels of a set, taken out one by one. Assumes nothing.
use Rattle.std.proofs.Common.{◌≡◌, ℕ, Bool, true, false, inl, inr, List, [], ◌∷◌, Option, Some, None, MatchOption, Decides, sym, refl, ap, ◌∙◌, subst}
use Rattle.std.specs.Fn.{Called, Mut}
use Rattle.std.specs.List.{FoldsTo}
use Rattle.std.specs.Iterator.{ActsAs, ChecksAny, Yields}
use Rattle.std.proofs.lemmas.Bool.{both_ways, cases_eq, cases_Bool}
use Rattle.rules.specs.Channels.{has}
use Rattle.rules.specs.Takings.{TakesOne}
use Rattle.rules.specs.declared.bits.Channels.{Channels}
use Rattle.rules.proofs.Digits.{Cut, cut_inside, cut_other, cut_stays, has_none}

abbrev pub takes : Channels → Option ℕ → Channels → Type 0
takes s r t = TakesOne s.0 r t.0

-- what is left was there
left_there : (xs : List ℕ) (s t : Channels) → Yields takes s xs t → (j : ℕ) → has t.0 j ≡ true → has s.0 j ≡ true
left_there [] s t e j h = subst (λ (x : Channels). has x.0 j ≡ true) (sym e) h
left_there (x ∷ xs) s t (k, y, ys) j h = cut_inside s.0 x k.0 y.2 j (left_there xs k t ys j h)

module _ {F : Type 0} (g : Mut F (ℕ × Unit {0}) Bool) (f : F) (p : ℕ → Bool) (acts : ActsAs g f p) where
  abbrev fails : F → ℕ → F → Type 0
  fails a x b = Called g a (x, tt) false b

  -- what passes is left by what fails
  passing_left : (xs : List ℕ) (s t : Channels) (q a : F) → a ≡ f → Yields takes s xs t → FoldsTo fails a xs q → (q ≡ f) × ((j : ℕ) → p j ≡ true → has s.0 j ≡ true → has t.0 j ≡ true)
  passing_left [] s t q a z e d = (sym d ∙ z, λ j y h. subst (λ (x : Channels). has x.0 j ≡ true) e h)
  passing_left (x ∷ xs) s t q a z (k, y, ys) (b, c, d) =
      let w = acts x false b (subst (λ (i : F). fails i x b) z c) in
      let r = passing_left xs k t q b w.0 ys d in
      (r.0, λ j v h. r.1 j v (cut_stays s.0 x k.0 y.2 j h (λ e. both_ways (p j) (ap p e ∙ sym w.1) v)))

  -- `any` finds whether some channel of the set passes
  pub any_passes : (s u : Channels) (r : Bool) → ChecksAny takes g s f r u → Decides r ((b : ℕ) × (has s.0 b ≡ true) × (p b ≡ true))
  any_passes s u r (xs, o, q, (t, ys, last), d, m) = go o last m
    where
      w : (q ≡ f) × ((j : ℕ) → p j ≡ true → has s.0 j ≡ true → has t.0 j ≡ true)
      w = passing_left xs s t q f refl ys d

      go : (o : Option ℕ) → takes t o u → MatchOption o (r ≡ false) (λ x. (r ≡ true) × ((h : F) × Called g q (x, tt) true h)) → Decides r ((b : ℕ) × (has s.0 b ≡ true) × (p b ≡ true))
      go None z e = (λ y. absurd (both_ways r e y), λ y. absurd (both_ways (has t.0 y.0) (ap (λ (x : ℕ). has x y.0) z ∙ has_none y.0) (w.1 y.0 y.2 y.1)))
      go (Some x) z e =
          let a = acts x true e.1.0 (subst (λ (i : F). Called g i (x, tt) true e.1.0) w.0 e.1.1) in
          (λ _. (x, left_there xs s t ys x z.1, sym a.1), λ _. e.0)

-- What is kept of a set, of which the channels of todo are still to be looked at, where the channels with P stay.
module _ (P : ℕ → Type 0) (set : ℕ) where
  pub record Keeping (rest todo : ℕ) : Type 0 where
    pub inside : (j : ℕ) → has rest j ≡ true → has set j ≡ true
    pub done : (j : ℕ) → has todo j ≡ false → has rest j ≡ true → P j
    pub all : (j : ℕ) → has set j ≡ true → P j → has rest j ≡ true

  module _ (rest todo a todo' : ℕ) (k : Keeping rest todo) (cut : Cut todo a todo') where
    later : (j : ℕ) → (j ≡ a → ⊥) → has todo' j ≡ false → has rest j ≡ true → P j
    later j d n h = elim (cases_Bool (has todo j)) [
      | inl y ↦ absurd (both_ways (has todo' j) n (cut_stays todo a todo' cut j y d))
      | inr y ↦ k.done j y h
    ]

    pub keeping_on : P a → Keeping rest todo'
    keeping_on b = record {
      inside = k.inside;
      done = λ j n h. elim (cases_eq j a) [ inl q ↦ subst P (sym q) b | inr d ↦ later j d n h ];
      all = k.all;
    }

    pub keeping_less : (rest' : ℕ) → (P a → ⊥) → Cut rest a rest' → Keeping rest' todo'
    keeping_less rest' b less = record {
      inside = λ j h. k.inside j (cut_inside rest a rest' less j h);
      done = λ j n h. later j (cut_other rest a rest' less j h) n (cut_inside rest a rest' less j h);
      all = λ j h t. cut_stays rest a rest' less j (k.all j h t) (λ q. b (subst P q t));
    }
