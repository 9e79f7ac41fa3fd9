-- Nogoods heeded. Assumes nothing.
use Rattle.std.specs.Bool.{then_some}
use Rattle.std.specs.Prelude.{Bool, Decides, MatchOption, slice_get, [], ◌∷◌}
use Rattle.std.proofs.Common.{◌≡◌, ℕ, ◌/◌, ◌%◌, ◌^◌, ◌<◌, true, false, ◌≢◌, List, length, get_or, sym, refl, subst, inl, inr, arith}
use Rattle.std.specs.List.{AllByRecursion}
use Rattle.std.proofs.lemmas.Bool.{cases_eq, both_ways, false≢true}
use Rattle.std.proofs.ByRecursion.{All-get_or, All-from_get_or, All-weaker}
use Rattle.rules.specs.Channels.{has}
use Rattle.model.specs.Masks.{grp}
use Rattle.model.specs.Remains.{Family, family, Only, Gone, Heeds}
use Rattle.propagation.specs.Supports.{Inside}
use Rattle.propagation.specs.Bases.{Forced}
use Rattle.rules.proofs.Digits.{Cut, has_none, has_some, cut_stays, cut_inside, cut_other}

-- a set without the channel is empty where the channel is the only one
pub only_if : (ms : List ℕ) (v r : ℕ) → Cut (get_or ms (v / 64) 0) (v % 64) r → r ≡ 0 → Only (family ms) v
only_if ms v r cut z c e = elim (cases_eq c (v % 64)) [
  | inl q ↦ q
  | inr n ↦ absurd (both_ways (has 0 c) (has_none c) (subst (λ (x : ℕ). has x c ≡ true) z (cut_stays (get_or ms (v / 64) 0) (v % 64) r cut c e n)))
]

pub if_only : (ms : List ℕ) (v r : ℕ) → r < 2 ^ 64 → Cut (get_or ms (v / 64) 0) (v % 64) r → Only (family ms) v → (r ≡ 0 → ⊥) → ⊥
if_only ms v r q cut o n =
    let t = has_some r q n in
    cut_other (get_or ms (v / 64) 0) (v % 64) r cut t.0 t.1 (o t.0 (cut_inside (get_or ms (v / 64) 0) (v % 64) r cut t.0 t.1))

-- of a family within another
pub only_inside : (k l : Family) (v : ℕ) → Inside k l → Only l v → Only k v
only_inside k l v ins o c e = o c (ins (grp v) c e)

pub forced_inside : (k l : Family) (n : List ℕ) (w : ℕ) → Inside k l → Forced l n w → Forced k n w
forced_inside k l n w ins f = All-weaker (λ v. v ≢ w → Only l v) (λ v. v ≢ w → Only k v) (λ v o d. only_inside k l v ins (o d)) n f

-- what a nogood asks of one of its assignments
pub heeds_at : (k : Family) (n : List ℕ) (i : ℕ) → i < length n → Heeds k n → Forced k n (get_or n i 0) → Gone k (get_or n i 0)
heeds_at k n i l h = All-get_or (λ w. AllByRecursion (λ v. v ≢ w → Only k v) n → Gone k w) n i 0 l h

-- where no assignment is forced
pub unforced_heeds : (k : Family) (n : List ℕ) → ((i : ℕ) → i < length n → Forced k n (get_or n i 0) → ⊥) → Heeds k n
unforced_heeds k n h = All-from_get_or (λ w. AllByRecursion (λ v. v ≢ w → Only k v) n → Gone k w) n 0 (λ i l f. absurd (h i l f))

-- where one is gone from a group that keeps something
pub gone_heeds : (k : Family) (n : List ℕ) (i : ℕ) → i < length n → Gone k (get_or n i 0) → (c : ℕ) × (k (grp (get_or n i 0)) c ≡ true) → Heeds k n
gone_heeds k n i l gone some = All-from_get_or (λ w. AllByRecursion (λ v. v ≢ w → Only k v) n → Gone k w) n 0 (λ j m f.
    elim (cases_eq (get_or n i 0) (get_or n j 0)) [
      | inl q ↦ subst (λ (x : ℕ). Gone k x) q gone
      | inr d ↦ (let o = All-get_or (λ v. v ≢ get_or n j 0 → Only k v) n i 0 l f d in
          absurd (both_ways (k (grp (get_or n i 0)) some.0) (subst (λ (x : ℕ). k (grp (get_or n i 0)) x ≡ false) (sym (o some.0 some.1)) gone) some.1))
    ])

-- where one assignment is not the only one of its group, no other is forced, and it is forced only if its others are settled
pub forced_one : (k : Family) (n : List ℕ) (w i : ℕ) → i < length n → w ≡ get_or n i 0 → (Only k w → ⊥) → (Forced k n w → ⊥) → (j : ℕ) → j < length n → Forced k n (get_or n j 0) → ⊥
forced_one k n w i l e wide f j m h = elim (cases_eq w (get_or n j 0)) [
  | inl q ↦ f (subst (λ (x : ℕ). Forced k n x) (sym q) h)
  | inr d ↦ wide (subst (λ (x : ℕ). x ≢ get_or n j 0 → Only k x) (sym e) (All-get_or (λ v. v ≢ get_or n j 0 → Only k v) n i 0 l h) d)
]

-- where all are, each is forced
pub all_forced : (k : Family) (n : List ℕ) (w : ℕ) → ((i : ℕ) → i < length n → Only k (get_or n i 0)) → Forced k n w
all_forced k n w h = All-from_get_or (λ v. v ≢ w → Only k v) n 0 (λ i l _. h i l)

-- the answer where the first that is not the only one of its group is w, by whether its others are settled
pub forced_then : (k : Family) (n : List ℕ) (w i : ℕ) → i < length n → w ≡ get_or n i 0 → (Only k w → ⊥) → (b : Bool) → Decides b (Forced k n w)
    → MatchOption (then_some b w) ((j : ℕ) → j < length n → Forced k n (get_or n j 0) → ⊥) (λ v. (j : ℕ) × (j < length n) × (v ≡ get_or n j 0) × Forced k n v)
forced_then k n w i l e wide true d = (i, l, e, d.0 refl)
forced_then k n w i l e wide false d = forced_one k n w i l e wide (λ f. false≢true (d.1 f))

-- the answer where each is the only one of its group
pub forced_first : (k : Family) (n : List ℕ) → ((i : ℕ) → i < length n → Only k (get_or n i 0))
    → MatchOption (slice_get n 0) ((j : ℕ) → j < length n → Forced k n (get_or n j 0) → ⊥) (λ v. (j : ℕ) × (j < length n) × (v ≡ get_or n j 0) × Forced k n v)
forced_first k [] h = λ j l. absurd (omega arith)
forced_first k (x ∷ n) h = (0, omega arith, refl, all_forced k (x ∷ n) x h)
