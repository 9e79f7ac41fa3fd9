-- What a slice holds after a write to its rest.
use Rattle.std.proofs.Common.{◌≡◌, ℕ, ◌+◌, ◌-◌, ◌<◌, ◌≤◌, List, [], ◌∷◌, ◌++◌, length, take, drop, set, sym, ap, ◌∙◌, append_assoc, one-add, arith, length-append}
use borrow.Rule.Slice.PartMut.{put_mid}
use Rattle.std.proofs.lemmas.List.{append-nil, drop_all, drop-drop, take_rest, length-drop, length-take-le, take_at, drop_at}
use Rattle.search.proofs.Marks.{set_seam}

-- after a call on `&mut s[u..]` that left ws there
pub rest_put : (xs ws : List ℕ) (u : ℕ) → put_mid u (length xs - u) xs ws ≡ take u xs ++ ws
rest_put xs ws u =
    let k : length (drop u xs) ≤ length xs - u = simp length-drop (omega arith) in
    rw (drop_all (length xs - u) (drop u xs) k, append-nil)

-- what was behind `&mut s[u..]`, past its first k
pub past_rest : (xs : List ℕ) (u k : ℕ) → drop k (take (length xs - u) (drop u xs)) ≡ drop (u + k) xs
past_rest xs u k = rw (take_rest xs u, drop-drop k u xs)

-- One nogood at the front: what was taken behind the first place, one more assignment, and the number before them.
pub nogood_written : (rest ws taken : List ℕ) (v n : ℕ) → n ≡ length taken → n + 1 < length rest
    → ws ≡ taken ++ drop n (take (length rest - 1) (drop 1 rest))
    → set (set (put_mid 1 (length rest - 1) rest ws) (1 + n) v) 0 (n + 1) ≡ (length (taken ++ v ∷ []) ∷ (taken ++ v ∷ [])) ++ drop (1 + length (taken ++ v ∷ [])) rest
nogood_written [] ws taken v n e l h = absurd (omega arith)
nogood_written (x ∷ xs) ws taken v n e l h =
    let a : ws ≡ taken ++ drop n xs = h ∙ ap (λ ys. taken ++ ys) (past_rest (x ∷ xs) 1 n ∙ ap (λ k. drop k (x ∷ xs)) (one-add n)) in
    let b : set ws n v ≡ (taken ++ v ∷ []) ++ drop (n + 1) xs = ap (λ ys. set ys n v) a ∙ set_seam taken xs n v e (omega arith) in
    let m : length (taken ++ v ∷ []) ≡ n + 1 = length-append taken (v ∷ []) ∙ (omega arith) in
    ap (λ ys. set (set ys (1 + n) v) 0 (n + 1)) (rest_put (x ∷ xs) ws 1)
    ∙ ap (λ k. set (set (x ∷ ws) k v) 0 (n + 1)) (one-add n)
    ∙ ap (λ ys. (n + 1) ∷ ys) b
    ∙ ap (λ k. k ∷ ((taken ++ v ∷ []) ++ drop (n + 1) xs)) (sym m)
    ∙ ap (λ k. length (taken ++ v ∷ []) ∷ ((taken ++ v ∷ []) ++ k)) (ap (λ k. drop k xs) (sym m) ∙ ap (λ k. drop k (x ∷ xs)) (sym (one-add (length (taken ++ v ∷ [])))))

-- One nogood more in the base.
pub base_written : (base ws n : List ℕ) (at : ℕ) → ws ≡ (length n ∷ n) ++ drop (1 + length n) (take (length base - at) (drop at base))
    → put_mid at (length base - at) base ws ≡ take at base ++ ((length n ∷ n) ++ drop (at + (1 + length n)) base)
base_written base ws n at e = rest_put base ws at ∙ ap (λ ys. take at base ++ ys) (e ∙ ap (λ ys. (length n ∷ n) ++ ys) (past_rest base at (1 + length n)))

pub record_step : (start base base' r w : List ℕ) (used at : ℕ) → used ≤ length start → at ≡ used + length r
    → base ≡ take used start ++ (r ++ drop at start) → base' ≡ take at base ++ (w ++ drop (at + length w) base)
    → base' ≡ take used start ++ ((r ++ w) ++ drop (at + length w) start)
record_step start base base' r w used at l e b h =
    let long : length (take used start ++ r) ≡ at = length-append (take used start) r ∙ (let k = length-take-le used start l in omega arith) in
    let whole : base ≡ (take used start ++ r) ++ drop at start = b ∙ sym (append_assoc (take used start) r (drop at start)) in
    let front : take at base ≡ take used start ++ r = ap (take at) whole ∙ take_at (take used start ++ r) (drop at start) at long in
    let back : drop at base ≡ drop at start = ap (drop at) whole ∙ drop_at (take used start ++ r) (drop at start) at long in
    let past : drop (at + length w) base ≡ drop (at + length w) start = sym (drop-drop (length w) at base) ∙ ap (drop (length w)) back ∙ drop-drop (length w) at start in
    h ∙ ap (λ ys. ys ++ (w ++ drop (at + length w) base)) front ∙ ap (λ ys. (take used start ++ r) ++ (w ++ ys)) past
    ∙ append_assoc (take used start) r (w ++ drop (at + length w) start)
    ∙ ap (λ ys. take used start ++ ys) (sym (append_assoc r w (drop (at + length w) start)))
