-- The first words of a branch and of a base, as they are lent on.
use Rattle.std.proofs.Common.{◌≡◌, ℕ, zero, suc, ◌/◌, ◌<◌, ◌≤◌, List, length, get_or, take, refl, ap, ◌∙◌, subst, inl, inr, not-suc-le-zero, arith}
use Rattle.std.specs.List.{AllByRecursion}
use Rattle.std.proofs.lemmas.List.{length-take-le, get_or-take}
use Rattle.std.proofs.ByRecursion.{All-weaker}
use Rattle.std.proofs.lemmas.Bool.{cases_eq}
use Rattle.model.specs.Decisions.{word, Assignment, Branch, Nogood}
use Rattle.model.specs.Words.{decision, branch_of}
use Rattle.search.specs.Branches.{LastTaken}
use Rattle.propagation.specs.Bases.{Grouped}

module _ (ws : List ℕ) (n : ℕ) (l : n ≤ length ws) where
  pub front_length : length (take n ws) ≡ n
  front_length = length-take-le n ws l

  pub front_word : (i : ℕ) → i < n → get_or (take n ws) i 0 ≡ get_or ws i 0
  front_word i h = get_or-take n ws i 0 h

  pub front_branch : (k : ℕ) → k ≤ n → branch_of (take n ws) k ≡ branch_of ws k
  front_branch zero h = refl
  front_branch (suc k) h =
      let a : get_or (take n ws) k 0 ≡ get_or ws k 0 = front_word k (omega arith) in
      let b : branch_of (take n ws) k ≡ branch_of ws k = front_branch k (omega arith) in
      cc

  pub whole_branch : branch_of (take n ws) (length (take n ws)) ≡ branch_of ws n
  whole_branch = ap (branch_of (take n ws)) front_length ∙ front_branch n (omega arith)

  -- The last decision taken among the first words is the last taken of them.
  pub front_last : (j : ℕ) → LastTaken (take n ws) (length (take n ws)) j → LastTaken ws n j
  front_last j t =
      let long = front_length in
      let within : j < n = omega (arith, t.within) in
      record {
        within = within;
        taken = subst (λ (k : ℕ). k < 65536) (front_word j within) t.taken;
        after = λ i p q. subst (λ (k : ℕ). 65536 ≤ k) (front_word i q) (t.after i p (omega arith));
      }

-- The words of a sound branch are listed assignments.
pub listed_word : (lists ws : List ℕ) (n : ℕ) → Branch lists (branch_of ws n) → (i : ℕ) → i < n → Assignment lists (word (decision (get_or ws i 0)))
listed_word lists ws zero b i h = absurd (not-suc-le-zero h)
listed_word lists ws (suc n) b i h = elim (cases_eq i n) [ inl e ↦ rw e b.0 | inr ne ↦ listed_word lists ws n b.2 i (omega arith) ]

-- The groups of at most 200 lists are below 200.
pub small_base : (lists : List ℕ) (ns : List (List ℕ)) → length lists ≤ 200 → AllByRecursion (Nogood lists) ns → AllByRecursion (Grouped 200) ns
small_base lists ns l h = All-weaker (Nogood lists) (Grouped 200) (λ n k. All-weaker (Assignment lists) (λ v. v / 64 < 200) (λ v a. omega (arith, a.group)) n k.listed) ns h

pub all_grouped : (lists : List ℕ) (ns : List (List ℕ)) → AllByRecursion (Nogood lists) ns → AllByRecursion (Grouped (length lists)) ns
all_grouped lists ns h = All-weaker (Nogood lists) (Grouped (length lists)) (λ n k. All-weaker (Assignment lists) (λ v. v / 64 < length lists) (λ v a. a.group) n k.listed) ns h
