-- From what the work gives to what remains. Assumes nothing.
use Rattle.std.proofs.Common.{◌≡◌, ℕ, ◌^◌, ◌<◌, Bool, true, false, List, length, get_or, refl, subst, inl, inr, arith}
use Rattle.std.specs.Prelude.{Result, Ok, Err, OnOk, OnErr}
use Rattle.std.proofs.lemmas.Bool.{both_ways, cases_lt}
use Rattle.std.proofs.lemmas.List.{get_or_past}
use Rattle.rules.specs.Meanings.{Meaning, Lawful}
use Rattle.rules.specs.Channels.{has}
use Rattle.rules.specs.Plans.{Listed}
use Rattle.model.specs.Decisions.{Decision}
use Rattle.model.specs.Words.{decision, branch_of}
use Rattle.model.specs.Remains.{Family, family, Obeys, Meets, Alive}
use Rattle.model.proofs.Tests.{refuted}
use Rattle.model.proofs.Largest.{filtered, filtered_remains}
use Rattle.propagation.specs.declared.records.RuleEnd.{RuleEnd}
use Rattle.propagation.specs.Waits.{waits, at_end}
use Rattle.rules.specs.Supports.{near, far}
use Rattle.propagation.specs.Supports.{Inside, Supported, Served}
use Rattle.propagation.specs.Settling.{Emptied}
use Rattle.propagation.specs.Calms.{Agrees, Calm}
use Rattle.propagation.specs.Filtered.{Lives, Doomed, Dies}
use Rattle.rules.proofs.Digits.{has_none, has_below}
use Rattle.propagation.proofs.Starting.{branch_all, all_branch}
use Rattle.propagation.proofs.Revising.{near_apart}
use Rattle.propagation.proofs.Steps.{ends_apart}

-- with the ends in line that have not what they need nothing is claimed
pub calm_served : (m : Meaning) → Lawful m → (ms : List ℕ) (q : List RuleEnd) → length ms ≡ m.groups → ((g c : ℕ) → family ms g c ≡ true → c < 64)
    → ((g i : ℕ) → g < length ms → Served m g (get_or ms g 0) i q) → Calm m ms q
calm_served m law ms q size narrow served i s n e h a p =
    let l = near_apart m.groups s e (ends_apart m law i e h) in
    elim (served (far s e) i (omega (arith, l.1, size)) s e h refl) [
      | inl w ↦ absurd (both_ways (waits q (at_end i s)) n w)
      | inr b ↦ b a (narrow (near s e) a p)
    ]

-- a family that meets the conditions supports all ends and heeds all nogoods
pub agrees_of : (lists : List ℕ) (m : Meaning) (base : List (List ℕ)) (branch : List Decision) (k : Family) → Meets lists m base branch k → Agrees m base k
agrees_of lists m base branch k mt = record { supported = both; heeds = mt.heeded }
  where
    both : (i : ℕ) (s : Bool) → Supported m k i s
    both i false e h a p = mt.across i e.0 e.1 a h p
    both i true e h a p = mt.back i e.0 e.1 a h p

module _ (lists : List ℕ) (m : Meaning) (base : List (List ℕ)) (ws : List ℕ) (fits : (i : ℕ) → get_or lists i 0 < 2 ^ 64) where
  abbrev branch : List Decision
  branch = branch_of ws (length ws)

  pub listed : (g c : ℕ) → family lists g c ≡ true → Listed lists g c
  listed g c e = record {
    group = elim (cases_lt g (length lists)) [
      | inl l ↦ l
      | inr l ↦ absurd (both_ways (has 0 c) (has_none c) (subst (λ (x : ℕ). has x c ≡ true) (get_or_past lists g 0 l) e))
    ];
    channel = has_below (get_or lists g 0) c (fits g) e;
    bit = e;
  }

  pub meets_inside : (k : Family) → Meets lists m base branch k → Inside k (family lists)
  meets_inside k mt g c e = (mt.within g c e).bit

  pub meets_obeys : (k : Family) → Meets lists m base branch k → (i : ℕ) → i < length ws → Obeys k (decision (get_or ws i 0))
  meets_obeys k mt = all_branch (Obeys k) ws (length ws) mt.decided

  -- the way of every such family
  abbrev pub Carries : List ℕ → Type 0
  Carries ms = (k : Family) → ((i : ℕ) → i < length ws → Obeys k (decision (get_or ws i 0))) → Agrees m base k → Inside k (family lists) → Inside k (family ms)

  pub all_inside : (ms : List ℕ) → Carries ms → (k : Family) → Meets lists m base branch k → Inside k (family ms)
  all_inside ms carries k mt = carries k (meets_obeys k mt) (agrees_of lists m base branch k mt) (meets_inside k mt)

  pub doomed : (ms : List ℕ) → length ms ≡ length lists → Carries ms → Emptied ms → Doomed lists m base branch
  doomed ms size carries t = (
    t.0,
    omega (arith, t.1, size),
    λ k mt c. refuted (k t.0 c) (λ e.
        both_ways (has 0 c) (has_none c) (subst (λ (x : ℕ). has x c ≡ true) t.2 (all_inside ms carries k mt t.0 c e))),
  )

  pub lives : (ms : List ℕ) → length ms ≡ length lists → Carries ms → Inside (family ms) (family lists)
      → ((i : ℕ) → i < length ws → Obeys (family ms) (decision (get_or ws i 0))) → Agrees m base (family ms) → Alive ms (family ms) → Lives lists m base branch ms
  lives ms size carries ins obeys agrees alive = record {
    remains = record {
      meets = record {
        within = λ g c e. listed g c (ins g c e);
        decided = branch_all (Obeys (family ms)) ws (length ws) obeys;
        across = λ i g h a e p. agrees.supported i false (g, h) e a p;
        back = λ i g h b e p. agrees.supported i true (g, h) e b p;
        heeded = agrees.heeds;
      };
      largest = all_inside ms carries;
    };
    alive = λ g l. alive g (omega arith);
  }

-- where some group keeps nothing in any family, it keeps nothing in the largest
pub doomed_dies : (lists : List ℕ) (m : Meaning) → Lawful m → (base : List (List ℕ)) (branch : List Decision) → Doomed lists m base branch → Dies lists m base branch
doomed_dies lists m law base branch d =
    let r = filtered_remains lists m base branch law in
    (filtered lists m base branch, r, (d.0, d.1, d.2 (filtered lists m base branch) r.meets))

-- a fact under an error, where it holds anyway
pub on_err : {T E P : Type 0} (r : Result T E) → P → OnErr r P
on_err (Ok x) p = tt
on_err (Err e) p = p

-- what three facts on success give together
pub on_ok_three : {T E P Q R S : Type 0} (r : Result T E) → (P → Q → R → S) → OnOk r P → OnOk r Q → OnOk r R → OnOk r S
on_ok_three (Ok x) f p q s = f p q s
on_ok_three (Err e) f p q s = tt
