-- What a call that is not refused has passed.
use Rattle.std.proofs.Common.{◌≡◌, ℕ, zero, suc, ◌+◌, ◌<◌, ◌≤◌, Bool, true, false, ◌&&◌, leb, ◌≢◌, List, [], ◌∷◌, ◌++◌, length, get_or, take, Some, None, sym, refl, ap, ◌∙◌, subst, arith, length-append}
use Rattle.std.proofs.lemmas.List.{length-take-le}
use Rattle.std.specs.List.{AllByRecursion}
use Rattle.std.proofs.lemmas.Bool.{and_parts, eqb-true, leb-true}
use Rattle.model.specs.Words.{branch_of, recorded}
use Rattle.model.specs.Decisions.{reduced}
use Rattle.model.specs.Moves.{State, nogoods}
use Rattle.laws.specs.Requests.{Request, Refusal, unless, first_of, empty_from, in_range, book_agrees, search_agrees, base_fits, branch_fits, work_fits, is_base_sound, has_space, open_checks, sitting_checks, restart_checks, open_refusal, sitting_refusal, restart_refusal}
use Rattle.model.specs.Words.{base_of}
use Rattle.model.proofs.Bases.{base_recorded}
use Rattle.laws.specs.Runs.{Found, standing}
use Rattle.laws.proofs.Words.{is_base}

no_refusal : (r : ℕ × ℕ) → ◌≡◌ {A = Refusal} (Some r) None → ⊥
no_refusal r e = let z : ◌≡◌ {A = ℕ} 0 1 = cc in omega arith

pub unless_none : (b : Bool) (n : ℕ) → unless b n ≡ None → b ≡ true
unless_none true n e = refl
unless_none false n e = absurd (no_refusal (n, 0) e)

-- Where the first refusal is none, all are.
pub all_none : (rs : List Refusal) → first_of rs ≡ None → AllByRecursion (λ r. r ≡ None) rs
all_none [] e = tt
all_none (Some r ∷ rs) e = absurd (no_refusal r e)
all_none (None ∷ rs) e = (refl, all_none rs e)

pub words_append : (ns ms : List (List ℕ)) → length (recorded (ns ++ ms)) ≡ length (recorded ns) + length (recorded ms)
words_append [] ms = omega arith
words_append (n ∷ ns) ms =
    let h = words_append ns ms in
    let a = length-append n (recorded (ns ++ ms)) in
    let b = length-append n (recorded ns) in
    omega arith

-- An open that is not refused has a book for the groups of the lists.
pub open_agrees : (q : Request) → open_refusal q ≡ None → q.book_groups ≡ length q.lists
open_agrees q e =
    let t = unless_none (in_range q && book_agrees q) 9 (all_none (open_checks q) e).0 in
    eqb-true q.book_groups (length q.lists) (and_parts _ _ (and_parts (in_range q) (book_agrees q) t).1).0

pub open_some : (q : Request) → open_refusal q ≡ None → 1 ≤ length q.lists
open_some q e =
    let t = unless_none (in_range q && book_agrees q) 9 (all_none (open_checks q) e).0 in
    leb-true 1 (length q.lists) (and_parts (leb 1 (length q.lists)) (leb (length q.lists) 200) (and_parts (in_range q) (book_agrees q) t).0).0

pub open_few : (q : Request) → open_refusal q ≡ None → length q.lists ≤ 200
open_few q e =
    let t = unless_none (in_range q && book_agrees q) 9 (all_none (open_checks q) e).0 in
    leb-true (length q.lists) 200 (and_parts (leb 1 (length q.lists)) (leb (length q.lists) 200) (and_parts (in_range q) (book_agrees q) t).0).1

length_branch_of : (ws : List ℕ) (n : ℕ) → length (branch_of ws n) ≡ n
length_branch_of ws zero = refl
length_branch_of ws (suc n) = ap suc (length_branch_of ws n)

-- What passes the checks stands for a state.
module _ (q : Request) (closings restarts : ℕ) where
  found_from : search_agrees q ≡ true → base_fits q ≡ true → is_base_sound q ≡ true → Found q.lists q (standing q closings restarts)
  found_from a f b =
      let ns = is_base q.lists (take q.base_used q.base) b in
      let r : base_of (take q.base_used q.base) ≡ ns.0 = ap base_of ns.1 ∙ base_recorded ns.0 in
      let words : take q.base_used q.base ≡ recorded (base_of (take q.base_used q.base)) = rw r ns.1 in
      let fits = leb-true q.base_used (length q.base) (and_parts (leb q.base_used (length q.base)) (leb (length q.base) 65536) f).0 in
      record {
        carried = record {
          groups = eqb-true q.groups (length q.lists) a;
          branch_length = sym (length_branch_of q.branch q.branch_length);
          base_used = sym (length-take-le q.base_used q.base fits) ∙ ap length words;
          moves = refl;
          since = refl;
        };
        listed = refl;
        branch = refl;
        base = words;
      }

  pub sitting_stands : sitting_refusal q ≡ None → Found q.lists q (standing q closings restarts)
  sitting_stands e =
      let c = all_none (sitting_checks q) e in
      found_from
      (and_parts (book_agrees q) (search_agrees q) (and_parts (in_range q) (book_agrees q && search_agrees q) (unless_none (in_range q && (book_agrees q && search_agrees q)) 9 c.0)).1).1
      (and_parts (base_fits q) (branch_fits q && work_fits q) (unless_none (base_fits q && (branch_fits q && work_fits q)) 10 c.1.1.0)).0
      (unless_none (is_base_sound q) 16 c.1.1.1.1.1.1.0)

  pub restart_stands : restart_refusal q ≡ None → Found q.lists q (standing q closings restarts)
  restart_stands e =
      let c = all_none (restart_checks q) e in
      found_from
      (and_parts (in_range q) (search_agrees q) (unless_none (in_range q && search_agrees q) 9 c.0)).1
      (and_parts (base_fits q) (branch_fits q) (unless_none (base_fits q && branch_fits q) 10 c.1.1.0)).0
      (unless_none (is_base_sound q) 16 c.1.1.1.1.1.0)

-- A restart that is not refused has a closing to restart after, and room.
module _ (lists : List ℕ) (q : Request) (s : State) (found : Found lists q s) (e : restart_refusal q ≡ None) where
  pub restart_since : 1 ≤ s.since
  restart_since = rw found.carried.since at (leb-true 1 q.since (unless_none (leb 1 q.since) 14 (all_none (restart_checks q) e).1.1.1.1.1.1.0))

  pub restart_fits : length (recorded (nogoods s)) ≤ length q.base
  restart_fits =
      let h = leb-true _ _ (unless_none (has_space q) 15 (all_none (restart_checks q) e).1.1.1.1.1.1.1.0) in
      let b : length (recorded (reduced (branch_of q.branch q.branch_length))) ≡ length (recorded (reduced s.branch)) = ap (λ ds. length (recorded (reduced ds))) found.branch in
      let w = words_append s.base (reduced s.branch) in
      let u = found.carried.base_used in
      omega arith

pub first_is : (rs : List Refusal) (r : ℕ × ℕ) → first_of rs ≡ Some r → (before after : List Refusal) × (rs ≡ before ++ Some r ∷ after) × AllByRecursion (λ c. c ≡ None) before
first_is [] r e = absurd (no_refusal r (sym e))
first_is (Some q ∷ rs) r e = ([], rs, ap (λ (c : Refusal). c ∷ rs) e, tt)
first_is (None ∷ rs) r e =
    let h = first_is rs r e in
    (None ∷ h.0, h.1, ap (λ (l : List Refusal). None ∷ l) h.2, (refl, h.3))

-- A list that is 0 is found, counted from k.
pub empty_is : (k : ℕ) (lists : List ℕ) (number g : ℕ) → empty_from k lists ≡ Some (number, g)
    → (i : ℕ) × (g ≡ k + i) × (number ≡ 3) × (i < length lists) × (get_or lists i 0 ≡ 0) × ((h : ℕ) → h < i → get_or lists h 0 ≢ 0)
empty_is k [] number g e = absurd (no_refusal (number, g) (sym e))
empty_is k (zero ∷ ms) number g e =
    let p : ◌≡◌ {A = ℕ × ℕ} (3, k) (number, g) = cc in
    let a : 3 ≡ number = ap (λ (q : ℕ × ℕ). q.0) p in
    let b : k ≡ g = ap (λ (q : ℕ × ℕ). q.1) p in
    (0, omega arith, sym a, omega arith, refl, λ h l. absurd (omega arith))
empty_is k (suc m ∷ ms) number g e =
    let r = empty_is (suc k) ms number g e in
    (suc r.0, omega (arith, r.1), r.2, omega (arith, r.3), r.4, before r.0 r.5)
  where
    before : (i : ℕ) → ((h : ℕ) → h < i → get_or ms h 0 ≢ 0) → (h : ℕ) → h < suc i → get_or (suc m ∷ ms) h 0 ≢ 0
    before i f zero l = λ e. absurd (omega arith)
    before i f (suc h) l = f h (omega arith)

pub empty_none : (k : ℕ) (lists : List ℕ) → empty_from k lists ≡ None → AllByRecursion (λ m. m ≢ 0) lists
empty_none k [] e = tt
empty_none k (zero ∷ ms) e = absurd (no_refusal (3, k) e)
empty_none k (suc m ∷ ms) e = ((λ h. absurd (omega arith)), empty_none (suc k) ms e)

pub lowest_empty : (lists : List ℕ) (number g : ℕ) → empty_from 0 lists ≡ Some (number, g)
    → (number ≡ 3) × (g < length lists) × (get_or lists g 0 ≡ 0) × ((h : ℕ) → h < g → get_or lists h 0 ≢ 0)
lowest_empty lists number g e =
    let r = empty_is 0 lists number g e in
    let f : r.0 ≡ g = omega (arith, r.1) in
    subst (λ (i : ℕ). (number ≡ 3) × (i < length lists) × (get_or lists i 0 ≡ 0) × ((h : ℕ) → h < i → get_or lists h 0 ≢ 0)) f (r.2, r.3, r.4, r.5)
