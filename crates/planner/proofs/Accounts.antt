-- How the lines of a plan go on.
use Rattle.std.proofs.Common.{◌≡◌, ℕ, suc, ◌+◌, ◌<◌, List, [], ◌∷◌, ◌++◌, length, take, get_or, sym, ap, ◌∙◌, arith, append_assoc, append-nil}
use Rattle.std.proofs.lemmas.List.{take_more, length-take-le}
use Rattle.planner.specs.Accounts.{line_text, plan_text}

plan_push : (n : ℕ) (cs : List ℕ) (c : ℕ) → plan_text n (cs ++ (c ∷ [])) ≡ plan_text n cs ++ line_text (n + length cs) c
plan_push n [] c =
    let same : n + 0 ≡ n = omega arith in
    append-nil (line_text n c) ∙ ap (λ (k : ℕ). line_text k c) (sym same)
plan_push n (d ∷ cs) c =
    let same : suc n + length cs ≡ n + length (d ∷ cs) = omega arith in
    ap (λ (bs : List ℕ). line_text n d ++ bs) (plan_push (suc n) cs c ∙ ap (λ (k : ℕ). plan_text (suc n) cs ++ line_text k c) same)
    ∙ sym (append_assoc (line_text n d) (plan_text (suc n) cs) (line_text (n + length (d ∷ cs)) c))

-- One line more.
pub plan_more : (cs : List ℕ) (k : ℕ) → k < length cs → plan_text 0 (take k cs) ++ line_text k (get_or cs k 0) ≡ plan_text 0 (take (k + 1) cs)
plan_more cs k h =
    let long : length (take k cs) ≡ k = length-take-le k cs (omega (arith, h)) in
    let same : 0 + length (take k cs) ≡ k = omega (arith, long) in
    sym (ap (plan_text 0) (take_more cs k 0 h) ∙ plan_push 0 (take k cs) (get_or cs k 0) ∙ ap (λ (n : ℕ). plan_text 0 (take k cs) ++ line_text n (get_or cs k 0)) same)
