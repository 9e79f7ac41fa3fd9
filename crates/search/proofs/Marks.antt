-- How a branch grows by the next of its words.
use Rattle.std.proofs.Common.{◌≡◌, ℕ, zero, suc, ◌+◌, ◌-◌, ◌<◌, ◌≤◌, List, [], ◌∷◌, ◌++◌, length, get_or, take, drop, set, sym, refl, ap, ◌∙◌, inl, inr, append_assoc, add-one, arith, length-append}
use Rattle.std.proofs.lemmas.List.{append-nil, set_at, drop_more}
use Rattle.std.proofs.lemmas.Bool.{cases_lt}
use Rattle.model.specs.Decisions.{Decision, taken, refused, takens, reduced}
use Rattle.model.specs.Words.{decision, branch_of, recorded}
use Rattle.model.proofs.Words.{is_taken, is_refused}
use Rattle.search.specs.Branches.{nogood_at, nogood_of}
use Rattle.search.proofs.Fronts.{whole_branch}

-- What a word says tells it.
pub taken_is : (w x : ℕ) → taken x ≡ decision w → (w < 65536) × (x ≡ w)
taken_is w x e = elim (cases_lt w 65536) [
  | inl l ↦ (l, let r : taken x ≡ taken w = e ∙ is_taken w l in cc)
  | inr l ↦ absurd (let r : taken x ≡ refused (w - 65536) = e ∙ is_refused w l in let z : ◌≡◌ {A = ℕ} 0 1 = cc in omega arith)
]

pub refused_is : (w x : ℕ) → refused x ≡ decision w → (65536 ≤ w) × (x ≡ w - 65536)
refused_is w x e = elim (cases_lt w 65536) [
  | inl l ↦ absurd (let r : refused x ≡ taken w = e ∙ is_taken w l in let z : ◌≡◌ {A = ℕ} 0 1 = cc in omega arith)
  | inr l ↦ (l, let r : refused x ≡ refused (w - 65536) = e ∙ is_refused w l in cc)
]

module _ (ws : List ℕ) where
  next : (n : ℕ) → branch_of ws (n + 1) ≡ decision (get_or ws n 0) ∷ branch_of ws n
  next n = ap (branch_of ws) (add-one n)

  -- A word below 65,536 is taken.
  pub takens_taken : (n : ℕ) → get_or ws n 0 < 65536 → takens (branch_of ws (n + 1)) ≡ takens (branch_of ws n) ++ get_or ws n 0 ∷ []
  takens_taken n h = ap takens (next n ∙ ap (λ d. d ∷ branch_of ws n) (is_taken (get_or ws n 0) h))

  pub reduced_taken : (n : ℕ) → get_or ws n 0 < 65536 → reduced (branch_of ws (n + 1)) ≡ reduced (branch_of ws n)
  reduced_taken n h = ap reduced (next n ∙ ap (λ d. d ∷ branch_of ws n) (is_taken (get_or ws n 0) h))

  -- Any other is refused.
  pub takens_refused : (n : ℕ) → 65536 ≤ get_or ws n 0 → takens (branch_of ws (n + 1)) ≡ takens (branch_of ws n)
  takens_refused n h = ap takens (next n ∙ ap (λ d. d ∷ branch_of ws n) (is_refused (get_or ws n 0) h))

  pub reduced_refused : (n : ℕ) → 65536 ≤ get_or ws n 0 → reduced (branch_of ws (n + 1)) ≡ reduced (branch_of ws n) ++ nogood_at ws n ∷ []
  reduced_refused n h = ap reduced (next n ∙ ap (λ d. d ∷ branch_of ws n) (is_refused (get_or ws n 0) h))

  -- Where every word is refused, none is taken.
  pub none_taken : (n : ℕ) → ((i : ℕ) → i < n → 65536 ≤ get_or ws i 0) → takens (branch_of ws n) ≡ []
  none_taken zero h = refl
  none_taken (suc n) h = ap takens (ap (λ d. d ∷ branch_of ws n) (is_refused (get_or ws n 0) (h n (omega arith)))) ∙ none_taken n (λ i l. h i (omega arith))

-- One more nogood takes its number and its assignments.
pub recorded_push : (ns : List (List ℕ)) (n : List ℕ) → recorded (ns ++ n ∷ []) ≡ recorded ns ++ (length n ∷ n)
recorded_push [] n = ap (λ r. length n ∷ r) (append-nil n)
recorded_push (m ∷ ns) n = ap (λ r. (length m ∷ m) ++ r) (recorded_push ns n) ∙ sym (append_assoc (length m ∷ m) (recorded ns) (length n ∷ n))

pub words_push : (ns : List (List ℕ)) (n : List ℕ) → length (recorded (ns ++ n ∷ [])) ≡ length (recorded ns) + (1 + length n)
words_push ns n = ap length (recorded_push ns n) ∙ (let e = length-append (recorded ns) (length n ∷ n) in omega arith)

-- A write at the seam.
pub set_seam : (xs ys : List ℕ) (n w : ℕ) → n ≡ length xs → n < length ys → set (xs ++ drop n ys) n w ≡ (xs ++ w ∷ []) ++ drop (n + 1) ys
set_seam xs ys n w e l =
    let d : drop n ys ≡ get_or ys n 0 ∷ drop (n + 1) ys = drop_more ys n 0 l in
    ap (λ zs. set (xs ++ zs) n w) d ∙ set_at xs (get_or ys n 0) (drop (n + 1) ys) w n (sym e) ∙ sym (append_assoc xs (w ∷ []) (drop (n + 1) ys))

-- What grows with each decision grows with each word.
pub grows : (f : List Decision → ℕ) → ((d : Decision) (ds : List Decision) → f ds ≤ f (d ∷ ds)) → (ws : List ℕ) (i j : ℕ) → i ≤ j → f (branch_of ws i) ≤ f (branch_of ws j)
grows f step ws i zero l = let e : i ≡ 0 = omega arith in rw e (omega arith)
grows f step ws i (suc j) l = elim (cases_lt j i) [
  | inl m ↦ (let e : i ≡ suc j = omega arith in rw e (omega arith))
  | inr m ↦ (let h = grows f step ws i j m in let k = step (decision (get_or ws j 0)) (branch_of ws j) in omega arith)
]

pub takens_grow : (d : Decision) (ds : List Decision) → length (takens ds) ≤ length (takens (d ∷ ds))
takens_grow (taken w) ds = let e = length-append (takens ds) (w ∷ []) in omega arith
takens_grow (refused w) ds = omega arith

pub words_grow : (d : Decision) (ds : List Decision) → length (recorded (reduced ds)) ≤ length (recorded (reduced (d ∷ ds)))
words_grow (taken w) ds = omega arith
words_grow (refused w) ds = let e = words_push (reduced ds) (takens ds ++ w ∷ []) in omega arith

-- A decision taken at i finds room where all that are taken have it.
pub takens_room : (ws : List ℕ) (i len room : ℕ) → i < len → get_or ws i 0 < 65536 → length (takens (branch_of ws len)) ≤ room → length (takens (branch_of ws i)) < room
takens_room ws i len room l h r =
    let a = ap length (takens_taken ws i h) in
    let b = length-append (takens (branch_of ws i)) (get_or ws i 0 ∷ []) in
    let g = grows (λ ds. length (takens ds)) takens_grow ws (i + 1) len (omega arith) in
    omega arith

-- A refusal at i finds room where all nogoods have it.
pub nogood_room : (ws : List ℕ) (i len room : ℕ) → i < len → 65536 ≤ get_or ws i 0 → length (recorded (reduced (branch_of ws len))) ≤ room
    → length (recorded (reduced (branch_of ws i))) + (1 + length (nogood_at ws i)) ≤ room
nogood_room ws i len room l h r =
    let a = ap (λ ns. length (recorded ns)) (reduced_refused ws i h) in
    let b = words_push (reduced (branch_of ws i)) (nogood_at ws i) in
    let g = grows (λ ds. length (recorded (reduced ds))) words_grow ws (i + 1) len (omega arith) in
    omega arith

pub takens_few : (ws : List ℕ) (i : ℕ) → length (takens (branch_of ws i)) ≤ i
takens_few ws zero = omega arith
takens_few ws (suc i) = let h = takens_few ws i in let k = more (decision (get_or ws i 0)) (branch_of ws i) in omega arith
  where
    more : (d : Decision) (ds : List Decision) → length (takens (d ∷ ds)) ≤ length (takens ds) + 1
    more (taken w) ds = let e = length-append (takens ds) (w ∷ []) in omega arith
    more (refused w) ds = omega arith

-- One turn of each loop over a branch.
pub copy_step : (ws rest start : List ℕ) (n i : ℕ) → get_or ws i 0 < 65536 → n ≡ length (takens (branch_of ws i)) → n < length start
    → rest ≡ takens (branch_of ws i) ++ drop n start
    → (n + 1 ≡ length (takens (branch_of ws (i + 1)))) × (set rest n (get_or ws i 0) ≡ takens (branch_of ws (i + 1)) ++ drop (n + 1) start)
copy_step ws rest start n i h e l r =
    let t = takens_taken ws i h in
    let a = ap length t in
    let b = length-append (takens (branch_of ws i)) (get_or ws i 0 ∷ []) in
    (omega arith, ap (λ xs. set xs n (get_or ws i 0)) r ∙ set_seam (takens (branch_of ws i)) start n (get_or ws i 0) e l ∙ ap (λ xs. xs ++ drop (n + 1) start) (sym t))

pub count_taken : (ws : List ℕ) (i t w : ℕ) → get_or ws i 0 < 65536 → t ≡ length (takens (branch_of ws i)) → w ≡ length (recorded (reduced (branch_of ws i)))
    → (t + 1 ≡ length (takens (branch_of ws (i + 1)))) × (w ≡ length (recorded (reduced (branch_of ws (i + 1)))))
count_taken ws i t w h a b =
    let p = ap length (takens_taken ws i h) in
    let q = length-append (takens (branch_of ws i)) (get_or ws i 0 ∷ []) in
    (omega arith, b ∙ ap (λ ns. length (recorded ns)) (sym (reduced_taken ws i h)))

pub count_refused : (ws : List ℕ) (i t w : ℕ) → 65536 ≤ get_or ws i 0 → t ≡ length (takens (branch_of ws i)) → w ≡ length (recorded (reduced (branch_of ws i)))
    → (t ≡ length (takens (branch_of ws (i + 1)))) × (w + (t + 2) ≡ length (recorded (reduced (branch_of ws (i + 1)))))
count_refused ws i t w h a b =
    let p = ap (λ ns. length (recorded ns)) (reduced_refused ws i h) in
    let q = words_push (reduced (branch_of ws i)) (nogood_at ws i) in
    let r = length-append (takens (branch_of ws i)) ((get_or ws i 0 - 65536) ∷ []) in
    (a ∙ ap length (sym (takens_refused ws i h)), omega arith)

-- The nogood of a refusal, told by the words before it as a slice.
pub nogood_front : (ws : List ℕ) (i x : ℕ) → i ≤ length ws → x ≡ get_or ws i 0 - 65536 → nogood_of (take i ws) x ≡ nogood_at ws i
nogood_front ws i x l e = ap (λ ds. takens ds ++ x ∷ []) (whole_branch ws i l) ∙ ap (λ k. takens (branch_of ws i) ++ k ∷ []) e
