-- What remains is one family.
use Rattle.std.proofs.Common.{◌≡◌, ℕ, List, sym, ◌∙◌, inl, inr}
use Rattle.std.proofs.lemmas.Bool.{cases_Bool, both_ways}
use Rattle.rules.specs.Meanings.{Meaning}
use Rattle.model.specs.Remains.{Family}
use Rattle.model.specs.Moves.{State, Left}
use Rattle.model.proofs.Tests.{refuted}

-- Of two families that remain each is within the other.
pub remains_one : (lists : List ℕ) (book : Meaning) (s : State) (k l : Family) → Left lists book s k → Left lists book s l → (g c : ℕ) → k g c ≡ l g c
remains_one lists book s k l r q g c =
    elim (cases_Bool (k g c)) [
      | inl e ↦ e ∙ sym (q.largest k r.meets g c e)
      | inr e ↦ e ∙ sym (refuted (l g c) (λ h. both_ways (k g c) e (r.largest l q.meets g c h)))
    ]
