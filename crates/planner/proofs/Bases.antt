-- What a sitting records goes behind what was recorded, and zeros stay behind it.
use Rattle.std.proofs.Common.{◌≡◌, ℕ, ◌+◌, ◌-◌, ◌≤◌, List, ◌++◌, length, take, drop, replicate, sym, ap, ◌∙◌, arith}
use Rattle.std.proofs.Math.Seq.{drop-append-add}
use Rattle.std.proofs.lemmas.List.{take-append-drop, drop-replicate}
use Rattle.model.specs.Words.{recorded}
use Rattle.planner.specs.Answers.{Written}

pub written_on : (ws ws' : List ℕ) (ns ns' : List (List ℕ)) (used used' : ℕ) → Written ws ns → used ≡ length (recorded ns) → used ≤ used' → take used' ws' ≡ recorded ns' → drop used' ws' ≡ drop used' ws → Written ws' ns'
written_on ws ws' ns ns' used used' (k, e) at grown words past =
    let more = used' - used in
    let sum : used' ≡ length (recorded ns) + more = omega arith in
    let zeros : drop used' ws ≡ replicate (k - more) 0 =
    ap (λ (x : List ℕ). drop used' x) e
    ∙ (ap (λ (i : ℕ). drop i (recorded ns ++ replicate k 0)) sum ∙ (drop-append-add (recorded ns) (replicate k 0) more ∙ drop-replicate more k 0)) in
    (k - more, sym (take-append-drop used' ws') ∙ (ap (λ (x : List ℕ). x ++ drop used' ws') words ∙ ap (λ (x : List ℕ). recorded ns' ++ x) (past ∙ zeros)))
