-- What the writes of each move do to the state that the numbers and the words stand for.
use Rattle.std.proofs.Common.{◌≡◌, ℕ, zero, suc, ◌+◌, ◌-◌, ◌<◌, ◌≤◌, ◌≢◌, ◌⊎◌, List, [], ◌∷◌, ◌++◌, length, get_or, take, drop, set, sym, refl, ap, ◌∙◌, inl, inr, append_assoc, not-suc-le-zero, arith, length-append}
use mathlib.Core.List.{concat-ne-nil}
use Rattle.std.proofs.lemmas.List.{length-take-le, take_at, drop_at, drop-drop, drop-set-lt}
use Rattle.std.proofs.lemmas.Bool.{cases_eq}
use Rattle.model.specs.Masks.{grp}
use Rattle.model.specs.Decisions.{Decision, takens, reduced}
use Rattle.model.specs.Words.{decision, branch_of, base_of, recorded}
use Rattle.model.specs.Moves.{State, start, nogoods, closing, restarting, deciding}
use Rattle.model.proofs.Words.{is_taken, is_refused, write_taken, write_refused}
use Rattle.model.proofs.Bases.{base_recorded}
use Rattle.propagation.proofs.Indexing.{recorded_join}
use Rattle.laws.specs.Sittings.{blamed}
use Rattle.laws.proofs.Refusals.{words_append}
use Rattle.search.specs.declared.held.Progress.{Progress}
use Rattle.search.specs.Branches.{LastTaken}
use Rattle.search.specs.Turns.{state_of, closed_at, restarted_at, decided_at}

abbrev made : List Decision → List (List ℕ) → ℕ → ℕ → ℕ → ℕ → State
made b ns m c r s = record { branch = b; base = ns; moves = m; closings = c; restarts = r; since = s }

same_made : (b b' : List Decision) (ns ns' : List (List ℕ)) (m m' c c' r r' s s' : ℕ) → b ≡ b' → ns ≡ ns' → m ≡ m' → c ≡ c' → r ≡ r' → s ≡ s' → made b ns m c r s ≡ made b' ns' m' c' r' s'
same_made b b' ns ns' m m' c c' r r' s s' p q t u v w = cc

-- With no words and no counts it is the state at the start.
pub opened_state : (p : Progress) (branch base : List ℕ) → p.branch_len ≡ 0 → p.base_used ≡ 0 → p.counts.moves ≡ 0 → p.counts.closings ≡ 0 → p.counts.restarts ≡ 0 → p.since ≡ 0 → state_of p branch base ≡ start
opened_state p branch base l u m c r s = same_made _ _ _ _ _ _ _ _ _ _ _ _ (ap (branch_of branch) l) (ap (λ k. base_of (take k base)) u) m c r s

plus_one : (n : ℕ) → n + 1 ≡ suc n
plus_one n = omega arith

-- The last decision taken.
module _ (ws : List ℕ) where
  pub blamed_last : (n j : ℕ) → LastTaken ws n j → blamed (branch_of ws n) ≡ grp (get_or ws j 0)
  blamed_last zero j l = absurd (not-suc-le-zero l.within)
  blamed_last (suc n) j l = go (cases_eq n j) (λ k. blamed_last n j (record { within = k; taken = l.taken; after = λ i p q. l.after i p (omega arith) }))
    where
      go : (n ≡ j) ⊎ (n ≡ j → ⊥) → (j < n → blamed (branch_of ws n) ≡ grp (get_or ws j 0)) → blamed (decision (get_or ws n 0) ∷ branch_of ws n) ≡ grp (get_or ws j 0)
      go (inl e) f = rw (e, is_taken (get_or ws j 0) l.taken) refl
      go (inr ne) f = let w = l.within in rw (is_refused (get_or ws n 0) (l.after n (omega arith) (omega arith))) (f (omega arith))

  pub last_some : (n j : ℕ) → LastTaken ws n j → takens (branch_of ws n) ≢ []
  last_some zero j l = absurd (not-suc-le-zero l.within)
  last_some (suc n) j l = go (cases_eq n j) (λ k. last_some n j (record { within = k; taken = l.taken; after = λ i p q. l.after i p (omega arith) }))
    where
      go : (n ≡ j) ⊎ (n ≡ j → ⊥) → (j < n → takens (branch_of ws n) ≢ []) → takens (decision (get_or ws n 0) ∷ branch_of ws n) ≢ []
      go (inl e) f = rw (e, is_taken (get_or ws j 0) l.taken) (concat-ne-nil (get_or ws j 0) (takens (branch_of ws j)))
      go (inr ne) f = let w = l.within in rw (is_refused (get_or ws n 0) (l.after n (omega arith) (omega arith))) (f (omega arith))

pub closing_state : (p : Progress) (branch base : List ℕ) (last : ℕ) → LastTaken branch p.branch_len last → p.branch_len ≤ length branch
    → state_of (closed_at last p) (set branch last (get_or branch last 0 + 65536)) base ≡ closing (state_of p branch base)
closing_state p branch base last l n =
    same_made _ _ _ _ _ _ _ _ _ _ _ _
    (ap (branch_of (set branch last (get_or branch last 0 + 65536))) (plus_one last) ∙ sym (write_refused branch last p.branch_len l.within n l.taken l.after))
    refl (plus_one p.counts.moves) (plus_one p.counts.closings) refl (plus_one p.since)

pub deciding_state : (p : Progress) (branch base : List ℕ) (w : ℕ) → p.branch_len < length branch → w < 65536
    → state_of (decided_at p) (set branch p.branch_len w) base ≡ deciding w (state_of p branch base)
deciding_state p branch base w l s =
    same_made _ _ _ _ _ _ _ _ _ _ _ _
    (ap (branch_of (set branch p.branch_len w)) (plus_one p.branch_len) ∙ write_taken branch p.branch_len w l s)
    refl (plus_one p.counts.moves) refl refl refl

-- The used words after the nogoods of the branch were written behind them.
module _ (p : Progress) (branch base base' : List ℕ) (l : p.base_used ≤ length base)
    (sound : take p.base_used base ≡ recorded (base_of (take p.base_used base)))
    (wrote : base' ≡ take p.base_used base ++ (recorded (reduced (branch_of branch p.branch_len)) ++ drop (p.base_used + length (recorded (reduced (branch_of branch p.branch_len)))) base)) where
  new : List ℕ
  new = recorded (reduced (branch_of branch p.branch_len))

  pub used_words_lem : take (p.base_used + length (recorded (reduced (branch_of branch p.branch_len)))) base' ≡ recorded (nogoods (state_of p branch base))
  used_words_lem =
      let r = recorded (reduced (branch_of branch p.branch_len)) in
      let u = p.base_used in
      let long : length (take u base ++ r) ≡ u + length r = length-append (take u base) r ∙ (let k = length-take-le u base l in omega arith) in
      ap (take (u + length r)) (wrote ∙ sym (append_assoc (take u base) r (drop (u + length r) base)))
      ∙ take_at (take u base ++ r) (drop (u + length r) base) (u + length r) long
      ∙ ap (λ xs. xs ++ r) sound
      ∙ sym (recorded_join (base_of (take u base)) (reduced (branch_of branch p.branch_len)))

  pub past_words : drop (p.base_used + length (recorded (reduced (branch_of branch p.branch_len)))) base' ≡ drop (p.base_used + length (recorded (reduced (branch_of branch p.branch_len)))) base
  past_words =
      let r = recorded (reduced (branch_of branch p.branch_len)) in
      let u = p.base_used in
      let long : length (take u base ++ r) ≡ u + length r = length-append (take u base) r ∙ (let k = length-take-le u base l in omega arith) in
      ap (drop (u + length r)) (wrote ∙ sym (append_assoc (take u base) r (drop (u + length r) base)))
      ∙ drop_at (take u base ++ r) (drop (u + length r) base) (u + length r) long

  pub restarting_state : state_of (restarted_at branch p) branch base' ≡ restarting (state_of p branch base)
  restarting_state =
      same_made _ _ _ _ _ _ _ _ _ _ _ _
      refl (ap base_of used_words_lem ∙ base_recorded (nogoods (state_of p branch base))) (plus_one p.counts.moves) refl (plus_one p.counts.restarts) refl

  pub restarted_base : base_of (take (p.base_used + length (recorded (reduced (branch_of branch p.branch_len)))) base') ≡ nogoods (state_of p branch base)
  restarted_base = ap base_of used_words_lem ∙ base_recorded (nogoods (state_of p branch base))

  pub restarted_words : take (p.base_used + length (recorded (reduced (branch_of branch p.branch_len)))) base'
      ≡ recorded (base_of (take (p.base_used + length (recorded (reduced (branch_of branch p.branch_len)))) base'))
  restarted_words =
      used_words_lem ∙ ap recorded (sym (ap base_of used_words_lem ∙ base_recorded (nogoods (state_of p branch base))))

-- The words that all nogoods of the state take: those used, and those of the branch.
pub all_words : (p : Progress) (branch base : List ℕ) → p.base_used ≤ length base → take p.base_used base ≡ recorded (base_of (take p.base_used base))
    → length (recorded (nogoods (state_of p branch base))) ≡ p.base_used + length (recorded (reduced (branch_of branch p.branch_len)))
all_words p branch base l sound =
    let a = words_append (base_of (take p.base_used base)) (reduced (branch_of branch p.branch_len)) in
    let b : length (recorded (base_of (take p.base_used base))) ≡ p.base_used = ap length (sym sound) ∙ length-take-le p.base_used base l in
    omega arith

-- A write below n leaves what is past n.
pub past_set : (n i v : ℕ) (xs ys : List ℕ) → i < n → ys ≡ set xs i v → drop n ys ≡ drop n xs
past_set n i v xs ys lt e = ap (drop n) e ∙ drop-set-lt n xs i v lt

pub past_more : (xs ys : List ℕ) (a b : ℕ) → a ≤ b → drop a ys ≡ drop a xs → drop b ys ≡ drop b xs
past_more xs ys a b l e =
    let split : a + (b - a) ≡ b = omega arith in
    ap (λ k. drop k ys) (sym split) ∙ sym (drop-drop (b - a) a ys) ∙ ap (drop (b - a)) e ∙ drop-drop (b - a) a xs ∙ ap (λ k. drop k xs) split
