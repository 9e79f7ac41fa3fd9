-- How far a text is written.
use Rattle.std.proofs.Common.{◌≡◌, ℕ, ◌-◌, List, [], ◌++◌, length, take, drop, Some, None, Option, refl, sym, ap, ◌∙◌, subst, append_assoc, append-nil}
use Rattle.std.proofs.lemmas.List.{take-append-drop, length-drop}
use Rattle.std.proofs.Math.Seq.{take-length, take-append_seam}
use Rattle.std.specs.Io.KnownBytes.{Keeps, Appends}

-- A front of the text is written, and the rest is left.
pub record Written (text : List ℕ) (old new : Option (List ℕ)) (left : List ℕ) : Type 0 where
  pub front : List ℕ
  pub split : text ≡ front ++ left
  pub appends : Appends old new front

appends_more : (old mid new : Option (List ℕ)) (xs ys : List ℕ) → Appends old mid xs → Appends mid new ys → Appends old new (xs ++ ys)
appends_more None mid new xs ys a b = tt
appends_more (Some os) None new xs ys a b = absurd a
appends_more (Some os) (Some ms) None xs ys a b = absurd b
appends_more (Some os) (Some ms) (Some ns) xs ys a b = b ∙ (ap (λ (zs : List ℕ). zs ++ ys) a ∙ append_assoc os xs ys)

appends_kept : (old mid new : Option (List ℕ)) (xs : List ℕ) → Appends old mid xs → Keeps mid new → Appends old new xs
appends_kept None mid new xs a k = tt
appends_kept (Some os) None new xs a k = absurd a
appends_kept (Some os) (Some ms) None xs a k = absurd k
appends_kept (Some os) (Some ms) (Some ns) xs a k = k ∙ a

kept : (mid new : Option (List ℕ)) → Appends mid new [] → Keeps mid new
kept None new a = tt
kept (Some ms) None a = a
kept (Some ms) (Some ns) a = a ∙ append-nil ms

kept_same : (known : Option (List ℕ)) → Keeps known known
kept_same None = tt
kept_same (Some bs) = refl

appends_none : (known : Option (List ℕ)) → Appends known known []
appends_none None = tt
appends_none (Some bs) = sym (append-nil bs)

pub none_written : (text : List ℕ) (known : Option (List ℕ)) → Written text known known text
none_written text known = record { front = []; split = refl; appends = appends_none known }

module _ (text : List ℕ) (old mid new : Option (List ℕ)) (left : List ℕ) (w : Written text old mid left) where
  -- the output took some of what was left
  pub more_written : (n : ℕ) (rest : List ℕ) → rest ≡ take (length left - n) (drop n left) → Appends mid new (take n left) → Written text old new rest
  more_written n rest e a =
      let whole : take (length left - n) (drop n left) ≡ drop n left = ap (λ (k : ℕ). take k (drop n left)) (sym (length-drop n left)) ∙ take-length (drop n left) in
      let behind : left ≡ take n left ++ rest = sym (ap (λ (zs : List ℕ). take n left ++ zs) (e ∙ whole) ∙ take-append-drop n left) in
      record {
        front = w.front ++ take n left;
        split = w.split ∙ (ap (λ (zs : List ℕ). w.front ++ zs) behind ∙ sym (append_assoc w.front (take n left) rest));
        appends = appends_more old mid new w.front (take n left) w.appends a;
      }

  -- or none of it
  pub still_written : (rest : List ℕ) → rest ≡ left → Keeps mid new → Written text old new rest
  still_written rest e k = record { front = w.front; split = w.split ∙ ap (λ (zs : List ℕ). w.front ++ zs) (sym e); appends = appends_kept old mid new w.front w.appends k }

  -- where the output fails, a front of the text is written
  pub front_written : Keeps mid new → (n : ℕ) × Appends old new (take n text)
  front_written k =
      let front : take (length w.front) text ≡ w.front = ap (λ (zs : List ℕ). take (length w.front) zs) w.split ∙ take-append_seam w.front left in
      (length w.front, subst (λ (zs : List ℕ). Appends old new zs) (sym front) (appends_kept old mid new w.front w.appends k))

  -- and so where it takes nothing
  pub front_still_written : (n : ℕ) → n ≡ 0 → Appends mid new (take n left) → (k : ℕ) × Appends old new (take k text)
  front_still_written n e a = front_written (kept mid new (subst (λ (k : ℕ). Appends mid new (take k left)) e a))

module _ (text : List ℕ) (old new : Option (List ℕ)) (left : List ℕ) (w : Written text old new left) where
  pub so_far_written : (n : ℕ) × Appends old new (take n text)
  so_far_written = front_written text old new new left w (kept_same new)
