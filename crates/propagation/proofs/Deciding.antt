-- One more decision, from the family in hand. Assumes nothing.
use Rattle.std.proofs.Common.{◌≡◌, ℕ, ◌-◌, ◌^◌, ◌<◌, ◌≤◌, true, false, List, length, get_or, set, sym, subst, inl, inr, arith}
use Rattle.std.specs.List.{AllByRecursion}
use Rattle.std.proofs.lemmas.Bool.{cases_eq, eq-eqb}
use Rattle.rules.specs.Meanings.{Meaning}
use Rattle.rules.specs.Channels.{has}
use Rattle.model.specs.Words.{decision, branch_of}
use Rattle.model.specs.Remains.{Family, family, Obeys}
use Rattle.propagation.specs.declared.records.RuleEnd.{RuleEnd}
use Rattle.propagation.specs.declared.records.Assignment.{Assignment}
use Rattle.propagation.specs.Supports.{Inside}
use Rattle.propagation.specs.Bases.{Good}
use Rattle.propagation.specs.Calms.{Agrees, Calm}
use Rattle.propagation.specs.Filtered.{Lives}
use Rattle.rules.proofs.Digits.{has_dig, digs_le}
use Rattle.propagation.proofs.Starting.{obeys_inside, branch_all, all_branch}
use Rattle.propagation.proofs.Steps.{set_inside}
use Rattle.propagation.proofs.Filtering.{listed, Carries}
use Rattle.std.proofs.ByRecursion.{All-weaker}
use Rattle.model.specs.Remains.{Heeds}

-- a set within another is no larger as a number
pub within_le : (a b : ℕ) → a < 2 ^ 64 → ((j : ℕ) → has a j ≡ true → has b j ≡ true) → a ≤ b
within_le a b q h = digs_le 64 a b q (λ j e. has_dig b j (h j (eq-eqb _ _ e)))

-- a family that supports all ends and heeds all nogoods is calm and good, whatever waits
pub agrees_calm : (m : Meaning) (base : List (List ℕ)) (ms : List ℕ) (q : List RuleEnd) → Agrees m base (family ms) → Calm m ms q
agrees_calm m base ms q a i s _ = a.supported i s

pub agrees_good : (m : Meaning) (base : List (List ℕ)) (ms : List ℕ) (s : List Assignment) → Agrees m base (family ms) → AllByRecursion (Good ms s) base
agrees_good m base ms s a = All-weaker (Heeds (family ms)) (Good ms s) (λ n h _. h) base a.heeds

module _ (lists : List ℕ) (m : Meaning) (base : List (List ℕ)) (ws : List ℕ) (fits : (i : ℕ) → get_or lists i 0 < 2 ^ 64)
    (ms : List ℕ) (before : Lives lists m base (branch_of ws (length ws - 1)) ms)
    (some : 0 < length ws) (g r : ℕ) (here : g < length ms)
    (inside : (j : ℕ) → has r j ≡ true → has (get_or ms g 0) j ≡ true)
    (obeys : Obeys (family (set ms g r)) (decision (get_or ws (length ws - 1) 0)))
    (within : (k : Family) → Obeys k (decision (get_or ws (length ws - 1) 0)) → Inside k (family ms) → Inside k (family (set ms g r))) where
  -- every family that meets the conditions is in the family in hand
  hand : (k : Family) → ((i : ℕ) → i < length ws → Obeys k (decision (get_or ws i 0))) → Agrees m base k → Inside k (family lists) → Inside k (family ms)
  hand k o a ins = before.remains.largest k (record {
    within = λ g c e. listed lists m base ws fits g c (ins g c e);
    decided = branch_all (Obeys k) ws (length ws - 1) (λ i l. o i (omega arith));
    across = λ i g h x e p. a.supported i false (g, h) e x p;
    back = λ i g h x e p. a.supported i true (g, h) e x p;
    heeded = a.heeds;
  })

  pub decided_carries : (ms' : List ℕ) → ((k : Family) → Agrees m base k → Inside k (family (set ms g r)) → Inside k (family ms')) → Carries lists m base ws fits ms'
  decided_carries ms' f k o a ins = f k a (within k (o (length ws - 1) (omega arith)) (hand k o a ins))

  pub decided_inside : (k : Family) → Inside k (family (set ms g r)) → Inside k (family lists)
  decided_inside k ins x c e = (before.remains.meets.within x c (set_inside ms g r here inside x c (ins x c e))).bit

  pub decided_obeys : (k : Family) → Inside k (family (set ms g r)) → (i : ℕ) → i < length ws → Obeys k (decision (get_or ws i 0))
  decided_obeys k ins i l = elim (cases_eq i (length ws - 1)) [
    | inl q ↦ subst (λ (x : ℕ). Obeys k (decision (get_or ws x 0))) (sym q) (obeys_inside k (family (set ms g r)) (decision (get_or ws (length ws - 1) 0)) ins obeys)
    | inr n ↦ obeys_inside k (family ms) (decision (get_or ws i 0)) (λ x c e. set_inside ms g r here inside x c (ins x c e))
        (all_branch (Obeys (family ms)) ws (length ws - 1) before.remains.meets.decided i (omega arith))
  ]
