-- The line of assignments just settled. Assumes nothing.
use Rattle.std.proofs.Common.{◌≡◌, ℕ, suc, ◌+◌, ◌*◌, ◌<◌, ◌≤◌, Bool, true, false, ◌||◌, eqb, ◌⊎◌, List, [], ◌∷◌, ◌++◌, length, sym, refl, ap, ◌∙◌, inl, inr, arith}
use Rattle.std.proofs.lemmas.Bool.{eqb-true, eq-eqb, ne_eqb, cases_eq, or_cases, or_left, or_right, or_parts, or_from, false≢true}
use Rattle.std.proofs.lemmas.List.{length_push}
use Rattle.propagation.specs.declared.records.Assignment.{Assignment}
use Rattle.propagation.specs.Settling.{noted, stands, Alone, Settled}
use Rattle.propagation.proofs.Marks.{tally, tally_most, tally_more, tally_none}

shift : (x y z : Bool) → (x || (y || z)) ≡ ((x || y) || z)
shift true y z = refl
shift false y z = refl

flip : (a b : ℕ) → (eqb a b || false) ≡ eqb b a
flip a b = go (cases_eq a b)
  where
    go : (a ≡ b) ⊎ (a ≡ b → ⊥) → (eqb a b || false) ≡ eqb b a
    go (inl h) = or_left _ false (eq-eqb a b h) ∙ sym (eq-eqb b a (sym h))
    go (inr n) = or_from _ false (ne_eqb a b n) refl ∙ sym (ne_eqb b a (λ h. n (sym h)))

pub stands_push : (s : List Assignment) (f : Assignment) (g : ℕ) → stands (s ++ f ∷ []) g ≡ (stands s g || eqb g f.group)
stands_push [] f g = flip f.group g
stands_push (h ∷ s) f g = ap (λ (x : Bool). eqb h.group g || x) (stands_push s f g) ∙ shift (eqb h.group g) (stands s g) (eqb g f.group)

pub noted_push : (s : List Assignment) (f : Assignment) (v : ℕ) → noted (s ++ f ∷ []) v ≡ (noted s v || eqb v (64 * f.group + f.channel))
noted_push [] f v = flip (64 * f.group + f.channel) v
noted_push (h ∷ s) f v = ap (λ (x : Bool). eqb (64 * h.group + h.channel) v || x) (noted_push s f v) ∙ shift (eqb (64 * h.group + h.channel) v) (noted s v) (eqb v (64 * f.group + f.channel))

pub alone_push : (s : List Assignment) (f : Assignment) → Alone s → stands s f.group ≡ false → Alone (s ++ f ∷ [])
alone_push [] f o h = (refl, tt)
alone_push (k ∷ s) f o h =
    let p = or_parts (eqb k.group f.group) (stands s f.group) h in
    (stands_push s f k.group ∙ or_from (stands s k.group) (eqb k.group f.group) o.0 p.0, alone_push s f o.1 p.1)

stands_tally : (s : List Assignment) (n : ℕ) → Alone s → ((g : ℕ) → stands s g ≡ true → g < n) → tally (stands s) n ≡ length s
stands_tally [] n o b = tally_none n
stands_tally (f ∷ s) n o b =
    let k = f.group in
    let t = tally_more (stands s) (stands (f ∷ s)) k n (b k (or_left _ _ (eq-eqb k k refl))) o.0 (or_left _ _ (eq-eqb k k refl))
    (λ j m. sym (ap (λ (x : Bool). x || stands s j) (ne_eqb k j (λ p. m (sym p))))) in
    t ∙ ap suc (stands_tally s n o.1 (λ e h. b e (or_right _ _ h)))

pub stands_few : (s : List Assignment) (n : ℕ) → Alone s → ((g : ℕ) → stands s g ≡ true → g < n) → length s ≤ n
stands_few s n o b = let t = stands_tally s n o b in let m = tally_most (stands s) n in omega arith

-- there is a place for a group that does not wait
pub stands_room : (s : List Assignment) (n : ℕ) (f : Assignment) → Alone s → ((g : ℕ) → stands s g ≡ true → g < n) → stands s f.group ≡ false → f.group < n → length s < n
stands_room s n f o b h l =
    let r = stands_few (s ++ f ∷ []) n (alone_push s f o h) (λ g e. elim (or_cases (stands s g) (eqb g f.group) (sym (stands_push s f g) ∙ e)) [
      | inl k ↦ b g k
      | inr k ↦ let p = eqb-true g f.group k in omega arith
    ]) in
    omega (arith, length_push s f, r)

-- where nothing waits
pub settled_none : (ms : List ℕ) → Settled ms []
settled_none ms = record { alone = tt; below = λ g h. absurd (false≢true h); narrow = λ g h. absurd (false≢true h) }
