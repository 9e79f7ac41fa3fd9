-- What a write or a read at a place of the ring does to the list that waits.
use Rattle.std.proofs.Common.{◌≡◌, ℕ, suc, ◌+◌, ◌-◌, ◌<◌, ◌≤◌, ◌⊎◌, List, [], ◌∷◌, ◌++◌, length, get_or, take, drop, set, sym, ap, ◌∙◌, inl, inr, arith}
use lib.Seq.{take-set-lt}
use Rattle.std.proofs.lemmas.List.{append-nil, append_assoc, length-take, length-drop, length-append, take_all, drop_all, take-append-le, take-set-le, take_more, take_more_set, drop-set-lt, drop-set-add, drop_more, set-append_left, set-append_right}
use Rattle.propagation.specs.Waiting.{waiting}

-- the places from h on, and then those before
abbrev turned : {X : Type 0} → List X → ℕ → List X
turned ps h = drop h ps ++ take h ps

turned_length : {X : Type 0} (ps : List X) (h : ℕ) → length (turned ps h) ≡ length ps
turned_length ps h = simp (length-append, length-drop, length-take) (omega arith)

turned_past : {X : Type 0} (ps : List X) (h : ℕ) → length ps ≤ h → turned ps h ≡ ps
turned_past ps h l = rw (drop_all h ps l, take_all h ps l)

-- the place h of n places, where the first comes after the last
abbrev pub Round : ℕ → ℕ → ℕ → Type 0
Round n h s = ((h < n) × (s ≡ h)) ⊎ ((n ≤ h) × (s ≡ 0))

-- where the next record goes: l places on from s, round the end
abbrev pub Next : ℕ → ℕ → ℕ → ℕ → Type 0
Next n s l at = ((l < n - s) × (at ≡ s + l)) ⊎ ((n - s ≤ l) × (at ≡ l - (n - s)))

round_turned : {X : Type 0} (ps : List X) (h s : ℕ) → Round (length ps) h s → turned ps h ≡ turned ps s
round_turned ps h s (inl (a, e)) = rw e
round_turned ps h s (inr (a, e)) = rw (e, turned_past ps h a, append-nil)

set_turned : {X : Type 0} (ps : List X) (s l at : ℕ) (x : X) → s ≤ length ps → l < length ps → Next (length ps) s l at → turned (set ps at x) s ≡ set (turned ps s) l x
set_turned ps s l at x hs hl (inl (a, e)) =
    let k : l < length (drop s ps) = simp length-drop (omega arith) in
    let m : s ≤ s + l = omega arith in
    rw (e, drop-set-add s ps l x, take-set-le s ps (s + l) x m, set-append_left (drop s ps) (take s ps) l x k)
set_turned ps s l at x hs hl (inr (a, e)) =
    let k : l - (length ps - s) < s = omega arith in
    rw (
      e,
      drop-set-lt s ps (l - (length ps - s)) x k,
      take-set-lt s ps (l - (length ps - s)) x k,
      set-append_right (drop s ps) (take s ps) (length ps - s) l x (length-drop s ps) a,
    )

pub push_line : {X : Type 0} (ps : List X) (h l at : ℕ) (x : X) → l < length ps → h ≤ length ps → Next (length ps) h l at → waiting (set ps at x) h (l + 1) ≡ waiting ps h l ++ (x ∷ [])
push_line ps h l at x hl hs nx =
    let k : l < length (turned ps h) = rw turned_length hl in
    ap (take (l + 1)) (set_turned ps h l at x hs hl nx) ∙ take_more_set (turned ps h) l x k

pub line_length : {X : Type 0} (ps : List X) (h l : ℕ) → l ≤ length ps → length (waiting ps h l) ≡ l
line_length ps h l a = simp (length-take, length-append, length-drop) (omega arith)

pub pop_line : {X : Type 0} (ps : List X) (h next l : ℕ) (d : X) → 0 < l → l ≤ length ps → h < length ps → Round (length ps) (h + 1) next → waiting ps h l ≡ get_or ps h d ∷ waiting ps next (l - 1)
pop_line ps h next l d hl ln hn st =
    let k1 : l ≡ suc (l - 1) = omega arith in
    let m : l - 1 ≤ length (drop (h + 1) ps ++ take h ps) = simp (length-append, length-drop, length-take) (omega arith) in
    let e2 : turned ps h ≡ get_or ps h d ∷ (drop (h + 1) ps ++ take h ps) = ap (λ r. r ++ take h ps) (drop_more ps h d hn) in
    let e3 : turned ps (h + 1) ≡ (drop (h + 1) ps ++ take h ps) ++ (get_or ps h d ∷ []) = ap (λ r. drop (h + 1) ps ++ r) (take_more ps h d hn) ∙ sym (append_assoc (drop (h + 1) ps) (take h ps) (get_or ps h d ∷ [])) in
    let e4 : waiting ps next (l - 1) ≡ take (l - 1) (drop (h + 1) ps ++ take h ps) = ap (take (l - 1)) (sym (round_turned ps (h + 1) next st) ∙ e3) ∙ take-append-le (l - 1) _ _ m in
    ap (take l) e2 ∙ ap (λ j. take j (get_or ps h d ∷ (drop (h + 1) ps ++ take h ps))) k1 ∙ ap (λ r. get_or ps h d ∷ r) (sym e4)
