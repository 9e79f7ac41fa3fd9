use Rattle.std.proofs.Common.{◌≡◌, ℕ, ◌+◌, ◌-◌, ◌≤◌, leb, length, sym, ap, ◌∙◌, inl, inr, arith}
use Rattle.std.proofs.lemmas.Bool.{cases_lt, le-leb, lt-leb}
use Rattle.model.specs.Decisions.{reduced}
use Rattle.model.specs.Words.{recorded}
use Rattle.search.proofs.Fronts.{whole_branch}
use Rattle.search.proofs.words.has_space.Goals as goal

left_over : (n used size : ℕ) → used ≤ size → leb n (size - used) ≡ leb (used + n) size
left_over n used size l = elim (cases_lt (size - used) n) [
  | inl m ↦ lt-leb n (size - used) m ∙ sym (lt-leb (used + n) size (omega arith))
  | inr m ↦ le-leb n (size - used) m ∙ sym (le-leb (used + n) size (omega arith))
]

pub returns : goal.returns
returns c =
    let p = c.args.at.now in
    ap (λ k. leb k (length c.args.base.now - p.base_used)) (c.words_needed.ensures.words ∙ ap (λ ds. length (recorded (reduced ds))) (whole_branch c.args.branch.now p.branch_len c.requires.within))
    ∙ left_over _ p.base_used (length c.args.base.now) c.requires.used
