-- What writing a word of the branch does to the branch that the words stand for.
use Rattle.std.proofs.Common.{◌≡◌, ℕ, zero, suc, ◌+◌, ◌-◌, ◌<◌, ◌≤◌, ltb, ◌≢◌, ◌⊎◌, List, ◌∷◌, length, get_or, set, sym, refl, inl, inr, not-suc-le-zero, arith, get_or-set_other, get_or-set_same}
use Rattle.std.proofs.lemmas.Bool.{lt-ltb, le-ltb, cond-true, cond-false, cases_eq}
use Rattle.model.specs.Decisions.{taken, refused, closed}
use Rattle.model.specs.Words.{decision, branch_of}

pub is_taken : (w : ℕ) → w < 65536 → decision w ≡ taken w
is_taken w h = cond-true (ltb w 65536) (taken w) (refused (w - 65536)) (lt-ltb w 65536 h)

pub is_refused : (w : ℕ) → 65536 ≤ w → decision w ≡ refused (w - 65536)
is_refused w h = cond-false (ltb w 65536) (taken w) (refused (w - 65536)) (le-ltb w 65536 h)

-- A word past the branch's end is no part of it.
pub write_past : (ws : List ℕ) (n i v : ℕ) → n ≤ i → branch_of (set ws i v) n ≡ branch_of ws n
write_past ws zero i v h = refl
write_past ws (suc n) i v h =
    let ne : n ≢ i = omega arith in
    let e : get_or (set ws i v) n 0 ≡ get_or ws n 0 = get_or-set_other ws i n v 0 ne in
    let rest : branch_of (set ws i v) n ≡ branch_of ws n = write_past ws n i v (omega arith) in
    cc

-- Deciding writes the word at the end.
pub write_taken : (ws : List ℕ) (n w : ℕ) → n < length ws → w < 65536 → branch_of (set ws n w) (suc n) ≡ taken w ∷ branch_of ws n
write_taken ws n w l h =
    let e : get_or (set ws n w) n 0 ≡ w = get_or-set_same ws n w 0 l in
    let d : decision w ≡ taken w = is_taken w h in
    let rest : branch_of (set ws n w) n ≡ branch_of ws n = write_past ws n n w (omega arith) in
    cc

-- Closing adds 65,536 to the last taken word, at j, and ends the branch after it.
pub write_refused : (ws : List ℕ) (j n : ℕ) → j < n → n ≤ length ws → get_or ws j 0 < 65536 → ((i : ℕ) → j < i → i < n → 65536 ≤ get_or ws i 0)
    → closed (branch_of ws n) ≡ branch_of (set ws j (get_or ws j 0 + 65536)) (suc j)
write_refused ws j zero h l t r = absurd (not-suc-le-zero h)
write_refused ws j (suc n) h l t r = go (cases_eq n j) (λ h. write_refused ws j n h (omega arith) t (λ i p q. r i p (omega arith)))
  where
    new : ℕ
    new = get_or ws j 0 + 65536

    back : branch_of (set ws j (get_or ws j 0 + 65536)) (suc j) ≡ refused (get_or ws j 0) ∷ branch_of ws j
    back =
        let e : get_or (set ws j (get_or ws j 0 + 65536)) j 0 ≡ get_or ws j 0 + 65536 = get_or-set_same ws j (get_or ws j 0 + 65536) 0 (omega arith) in
        let d : decision (get_or ws j 0 + 65536) ≡ refused (get_or ws j 0 + 65536 - 65536) = is_refused (get_or ws j 0 + 65536) (omega arith) in
        let m : get_or ws j 0 + 65536 - 65536 ≡ get_or ws j 0 = omega arith in
        let rest : branch_of (set ws j (get_or ws j 0 + 65536)) j ≡ branch_of ws j = write_past ws j j (get_or ws j 0 + 65536) (omega arith) in
        cc

    go : (n ≡ j) ⊎ (n ≡ j → ⊥) → (j < n → closed (branch_of ws n) ≡ branch_of (set ws j (get_or ws j 0 + 65536)) (suc j))
        → closed (decision (get_or ws n 0) ∷ branch_of ws n) ≡ branch_of (set ws j (get_or ws j 0 + 65536)) (suc j)
    go (inl e) f = rw (e, is_taken (get_or ws j 0) t) (sym back)
    go (inr ne) f = rw (is_refused (get_or ws n 0) (r n (omega arith) (omega arith))) (f (omega arith))
