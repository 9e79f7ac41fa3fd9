-- The base part by part.
use Rattle.std.proofs.Common.{◌≡◌, ℕ, zero, suc, ◌≤◌, List, [], ◌∷◌, ◌++◌, length, take, drop, min, inl, inr, sym, refl, ap, ◌∙◌, arith}
use Rattle.std.proofs.lemmas.Bool.{cases_lt}
use Rattle.std.proofs.lemmas.List.{length-drop, length-take, take-append-drop, take_all, drop_all, take_at, drop_at}
use Rattle.model.specs.Words.{recorded, parted, base_of}
use Rattle.model.specs.Nogoods.{Begins}

-- more words than there are make no difference
pub parted_same : (f g : ℕ) (ws : List ℕ) → length ws ≤ f → length ws ≤ g → parted f ws ≡ parted g ws
parted_same zero zero ws p q = refl
parted_same zero (suc g) [] p q = refl
parted_same zero (suc g) (w ∷ ws) p q = absurd (omega arith)
parted_same (suc f) zero [] p q = refl
parted_same (suc f) zero (w ∷ ws) p q = absurd (omega arith)
parted_same (suc f) (suc g) [] p q = refl
parted_same (suc f) (suc g) (w ∷ ws) p q =
    let l = length-drop w ws in
    ap (λ (x : List (List ℕ)). take w ws ∷ x) (parted_same f g (drop w ws) (omega arith) (omega arith))

pub base_cons : (w : ℕ) (ts : List ℕ) → base_of (w ∷ ts) ≡ take w ts ∷ base_of (drop w ts)
base_cons w ts = ap (λ (x : List (List ℕ)). take w ts ∷ x) (parted_same (length ts) (length (drop w ts)) (drop w ts) (let l = length-drop w ts in omega arith) (omega arith))

-- the words of recorded nogoods are read as these
pub base_recorded : (ns : List (List ℕ)) → base_of (recorded ns) ≡ ns
base_recorded [] = refl
base_recorded (n ∷ ns) =
    base_cons (length n) (n ++ recorded ns)
    ∙ ap (λ (x : List ℕ). x ∷ base_of (drop (length n) (n ++ recorded ns))) (take_at n (recorded ns) (length n) refl)
    ∙ ap (λ (x : List ℕ). n ∷ base_of x) (drop_at n (recorded ns) (length n) refl)
    ∙ ap (λ (x : List (List ℕ)). n ∷ x) (base_recorded ns)

-- a number too large takes what there is
at_most : (x : ℕ) (ws : List ℕ) → (take (min (length ws) x) ws ≡ take x ws) × (drop (min (length ws) x) ws ≡ drop x ws)
at_most x ws = elim (cases_lt x (length ws)) [
  | inl l ↦ (let e : min (length ws) x ≡ x = omega arith in (ap (λ (k : ℕ). take k ws) e, ap (λ (k : ℕ). drop k ws) e))
  | inr l ↦ (let e : min (length ws) x ≡ length ws = omega arith in
      let h : length ws ≤ length ws = omega arith in
      (ap (λ (k : ℕ). take k ws) e ∙ take_all (length ws) ws h ∙ sym (take_all x ws l), ap (λ (k : ℕ). drop k ws) e ∙ drop_all (length ws) ws h ∙ sym (drop_all x ws l)))
]

-- the first nogood of the words, and the rest
pub begins : (ws words nogood rest : List ℕ) (x k : ℕ) → ws ≡ x ∷ words → k ≡ min (length words) x → nogood ≡ take k words → rest ≡ drop k words → Begins ws x nogood rest
begins ws words nogood rest x k e ek en er =
    let m = at_most x words in
    let front : nogood ≡ take x words = en ∙ ap (λ (n : ℕ). take n words) ek ∙ m.0 in
    let back : rest ≡ drop x words = er ∙ ap (λ (n : ℕ). drop n words) ek ∙ m.1 in
    let long : length nogood ≡ min x (length words) = ap length front ∙ length-take x words in
    record {
      nogoods = ap base_of e ∙ base_cons x words ∙ ap (λ (n : List ℕ). n ∷ base_of (drop x words)) (sym front) ∙ ap (λ (n : List ℕ). nogood ∷ base_of n) (sym back);
      front = e ∙ ap (λ (n : List ℕ). x ∷ n) (sym (take-append-drop x words) ∙ ap (λ (n : List ℕ). n ++ drop x words) (sym front) ∙ ap (λ (n : List ℕ). nogood ++ n) (sym back));
      at_most = omega arith;
      short = λ h. back ∙ drop_all x words (omega arith);
    }
