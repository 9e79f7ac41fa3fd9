-- The tests that a call makes, step by step.
use Rattle.std.proofs.Common.{◌≡◌, ℕ, zero, suc, ◌+◌, ◌-◌, ◌<◌, ◌≤◌, Bool, true, false, not, ◌&&◌, eqb, ltb, ◌≢◌, List, [], ◌∷◌, ◌++◌, length, get_or, take, drop, set, Some, None, sym, refl, ap, ◌∙◌, subst, inl, inr, add-one, arith, get_or-set_other, get_or-set_same}
use Rattle.std.proofs.lemmas.List.{length-append, take_more, take_all, take_at, drop_at}
use Rattle.std.proofs.lemmas.Bool.{cases_eq, cases_Bool, ne_eqb, le-ltb, ltb-true, ltb-false, and_parts, false≢true}
use Rattle.rules.specs.Channels.{has}
use Rattle.std.specs.List.{list_all}
use Rattle.model.specs.Masks.{grp, chan}
use Rattle.model.specs.Lists.{all}
use Rattle.model.specs.Decisions.{Decision, taken, refused, word}
use Rattle.model.specs.Words.{decision, branch_of}
use Rattle.model.specs.Nogoods.{Begins}
use Rattle.model.proofs.Words.{is_taken}
use Rattle.laws.specs.Words.{listed?, free?, branch?, apart?, some?, nogood?, base?}
use Rattle.laws.proofs.Words.{base_step, base_short}
use Rattle.laws.specs.Requests.{Refusal, empty_at, empty_from}
use Rattle.search.specs.Calls.{FreeFor}

-- The lowest empty list.
empty_nothing : (m g : ℕ) (later : Refusal) → m ≡ 0 → empty_at m g later ≡ Some (3, g)
empty_nothing zero g later e = refl
empty_nothing (suc m) g later e = absurd (omega arith)

empty_something : (m g : ℕ) (later : Refusal) → m ≢ 0 → empty_at m g later ≡ later
empty_something zero g later e = absurd (e refl)
empty_something (suc m) g later e = refl

-- The first empty list is told with its group, counted from g.
pub empty_first : (g : ℕ) (lists : List ℕ) (i : ℕ) → i < length lists → get_or lists i 0 ≡ 0 → ((k : ℕ) → k < i → get_or lists k 0 ≢ 0) → empty_from g lists ≡ Some (3, g + i)
empty_first g [] i l e before = absurd (omega arith)
empty_first g (m ∷ ms) zero l e before = empty_nothing m g (empty_from (suc g) ms) e ∙ ap (λ k. Some (3, k)) (omega arith)
empty_first g (m ∷ ms) (suc i) l e before =
    empty_something m g (empty_from (suc g) ms) (before zero (omega arith)) ∙ empty_first (suc g) ms i (omega arith) e (λ k h. before (suc k) (omega arith)) ∙ ap (λ k. Some (3, k)) (omega arith)

pub empty_never : (g : ℕ) (lists : List ℕ) → ((k : ℕ) → k < length lists → get_or lists k 0 ≢ 0) → empty_from g lists ≡ None
empty_never g [] all = refl
empty_never g (m ∷ ms) all = empty_something m g (empty_from (suc g) ms) (all zero (omega arith)) ∙ empty_never (suc g) ms (λ k h. all (suc k) (omega arith))

pub and_assoc : (a b c : Bool) → ((a && b) && c) ≡ (a && (b && c))
and_assoc true b c = refl
and_assoc false b c = refl

pub and_false : (b : Bool) → (b && false) ≡ false
and_false true = refl
and_false false = refl

turned : (a b : Bool) → (a && (b && true)) ≡ (b && a)
turned true true = refl
turned true false = refl
turned false true = refl
turned false false = refl

-- A decision leaves free what was free and is free beside it, and every assignment of another group.
free_split : (v : ℕ) (d : Decision) (ds : List Decision) → (free? v ds && free? v (d ∷ [])) ≡ free? v (d ∷ ds)
free_split v (taken w) ds = turned (free? v ds) (not (eqb (grp w) (grp v)))
free_split v (refused w) ds = turned (free? v ds) (not (eqb w v))

free_elsewhere : (v : ℕ) (d : Decision) (ds : List Decision) → grp v ≢ grp (word d) → free? v ds ≡ free? v (d ∷ ds)
free_elsewhere v (taken w) ds ne = ap (λ b. not b && free? v ds) (sym (ne_eqb (grp w) (grp v) (λ q. ne (sym q))))
free_elsewhere v (refused w) ds ne = ap (λ b. not b && free? v ds) (sym (ne_eqb w v (λ q. ne (ap grp (sym q)))))

pub admitted : (lists sets : List ℕ) (ds : List Decision) (d : Decision) (g new : ℕ) → g ≡ grp (word d) → g < length sets
    → ((v : ℕ) → grp v ≡ grp (word d) → has new (chan v) ≡ (has (get_or sets g 0) (chan v) && free? v (d ∷ []))) → FreeFor lists sets ds → FreeFor lists (set sets g new) (d ∷ ds)
admitted lists sets ds d g new of l stays free v h = elim (cases_eq (grp v) g) [
  | inl e ↦ (
      ap (λ k. has (get_or (set sets g new) k 0) (chan v)) e ∙ ap (λ x. has x (chan v)) (get_or-set_same sets g new 0 l) ∙ stays v (e ∙ of)
      ∙ ap (λ k. has (get_or sets k 0) (chan v) && free? v (d ∷ [])) (sym e) ∙ ap (λ b. b && free? v (d ∷ [])) (free v h)
      ∙ and_assoc (listed? lists v) (free? v ds) (free? v (d ∷ [])) ∙ ap (λ b. listed? lists v && b) (free_split v d ds))
  | inr ne ↦ ap (λ x. has x (chan v)) (get_or-set_other sets g (grp v) new 0 ne) ∙ free v h ∙ ap (λ b. listed? lists v && b) (free_elsewhere v d ds (λ q. ne (q ∙ sym of)))
]

-- A branch is tested word by word, the oldest first.
pub branch_next : (lists ws : List ℕ) (i : ℕ)
    → branch? lists (branch_of ws (i + 1)) ≡ (listed? lists (word (decision (get_or ws i 0))) && (free? (word (decision (get_or ws i 0))) (branch_of ws i) && branch? lists (branch_of ws i)))
branch_next lists ws i = ap (λ k. branch? lists (branch_of ws k)) (add-one i)

and_three : (a b c : Bool) → (a && b) ≡ false → (a && (b && c)) ≡ false
and_three true true c e = absurd (false≢true (sym e))
and_three true false c e = refl
and_three false b c e = refl

false_on : (lists ws : List ℕ) (i k : ℕ) → branch? lists (branch_of ws i) ≡ false → branch? lists (branch_of ws (k + i)) ≡ false
false_on lists ws i zero e = let z : 0 + i ≡ i = omega arith in rw z e
false_on lists ws i (suc k) e =
    let z : suc k + i ≡ suc (k + i) = omega arith in
    let d = decision (get_or ws (k + i) 0) in
    rw z (ap (λ b. listed? lists (word d) && (free? (word d) (branch_of ws (k + i)) && b)) (false_on lists ws i k e)
    ∙ ap (λ b. listed? lists (word d) && b) (and_false (free? (word d) (branch_of ws (k + i)))) ∙ and_false (listed? lists (word d)))

pub branch_fails : (lists ws : List ℕ) (i n : ℕ) → i < n → (listed? lists (word (decision (get_or ws i 0))) && free? (word (decision (get_or ws i 0))) (branch_of ws i)) ≡ false
    → branch? lists (branch_of ws n) ≡ false
branch_fails lists ws i n l e =
    let f = branch_next lists ws i ∙ and_three (listed? lists (word (decision (get_or ws i 0)))) (free? (word (decision (get_or ws i 0))) (branch_of ws i)) (branch? lists (branch_of ws i)) e in
    let z : (n - (i + 1)) + (i + 1) ≡ n = omega arith in
    subst (λ (k : ℕ). branch? lists (branch_of ws k) ≡ false) z (false_on lists ws (i + 1) (n - (i + 1)) f)

-- A nogood is a branch of decisions taken.
all_append : {X : Type 0} (p : X → Bool) (xs : List X) (x : X) → all p (xs ++ x ∷ []) ≡ (all p xs && p x)
all_append p [] x = pull (p x)
  where
    pull : (b : Bool) → (b && true) ≡ b
    pull true = refl
    pull false = refl
all_append p (y ∷ ys) x = ap (λ b. p y && b) (all_append p ys x) ∙ sym (and_assoc (p y) (all p ys) (p x))

apart_append : (xs : List ℕ) (w : ℕ) → apart? (xs ++ w ∷ []) ≡ (apart? xs && all (λ v. not (eqb (grp v) (grp w))) xs)
apart_append [] w = refl
apart_append (v ∷ xs) w =
    ap (λ b. b && apart? (xs ++ w ∷ [])) (all_append (λ u. not (eqb (grp v) (grp u))) xs w)
    ∙ ap (λ b. (all (λ u. not (eqb (grp v) (grp u))) xs && not (eqb (grp v) (grp w))) && b) (apart_append xs w)
    ∙ mix (all (λ u. not (eqb (grp v) (grp u))) xs) (not (eqb (grp v) (grp w))) (apart? xs) (all (λ u. not (eqb (grp u) (grp w))) xs)
  where
    mix : (a b c d : Bool) → ((a && b) && (c && d)) ≡ ((a && c) && (b && d))
    mix true true true d = refl
    mix true true false d = refl
    mix true false true d = refl
    mix true false false d = refl
    mix false b c d = refl

-- Every word among the first n is below 65,536.
abbrev Low : List ℕ → ℕ → Type 0
Low ws n = (i : ℕ) → i < n → get_or ws i 0 < 65536

free_taken : (ws : List ℕ) (w n : ℕ) → n ≤ length ws → Low ws n → free? w (branch_of ws n) ≡ all (λ v. not (eqb (grp v) (grp w))) (take n ws)
free_taken ws w zero l low = refl
free_taken ws w (suc n) l low =
    let d = is_taken (get_or ws n 0) (low n (omega arith)) in
    let h = free_taken ws w n (omega arith) (λ i k. low i (omega arith)) in
    ap (λ x. free? w (x ∷ branch_of ws n)) d ∙ ap (λ b. not (eqb (grp (get_or ws n 0)) (grp w)) && b) h ∙ swap (not (eqb (grp (get_or ws n 0)) (grp w))) (all (λ v. not (eqb (grp v) (grp w))) (take n ws))
    ∙ sym (ap (λ k. all (λ v. not (eqb (grp v) (grp w))) (take k ws)) (sym (add-one n)) ∙ ap (all (λ v. not (eqb (grp v) (grp w)))) (take_more ws n 0 (omega arith)) ∙ all_append (λ v. not (eqb (grp v) (grp w))) (take n ws) (get_or ws n 0))
  where
    swap : (a b : Bool) → (a && b) ≡ (b && a)
    swap true true = refl
    swap true false = refl
    swap false true = refl
    swap false false = refl

branch_taken : (lists ws : List ℕ) (n : ℕ) → n ≤ length ws → Low ws n → branch? lists (branch_of ws n) ≡ (all (listed? lists) (take n ws) && apart? (take n ws))
branch_taken lists ws zero l low = refl
branch_taken lists ws (suc n) l low =
    let w = get_or ws n 0 in
    let d = is_taken (get_or ws n 0) (low n (omega arith)) in
    let h = branch_taken lists ws n (omega arith) (λ i k. low i (omega arith)) in
    let f = free_taken ws w n (omega arith) (λ i k. low i (omega arith)) in
    let t : take (suc n) ws ≡ take n ws ++ w ∷ [] = ap (λ k. take k ws) (sym (add-one n)) ∙ take_more ws n 0 (omega arith) in
    ap (λ x. branch? lists (x ∷ branch_of ws n)) d
    ∙ ap (λ b. listed? lists w && (b && branch? lists (branch_of ws n))) f
    ∙ ap (λ b. listed? lists w && (all (λ v. not (eqb (grp v) (grp w))) (take n ws) && b)) h
    ∙ mix (listed? lists w) (all (λ v. not (eqb (grp v) (grp w))) (take n ws)) (all (listed? lists) (take n ws)) (apart? (take n ws))
    ∙ sym (ap (λ xs. all (listed? lists) xs && apart? xs) t ∙ ap (λ b. b && apart? (take n ws ++ w ∷ [])) (all_append (listed? lists) (take n ws) w)
    ∙ ap (λ b. (all (listed? lists) (take n ws) && listed? lists w) && b) (apart_append (take n ws) w))
  where
    mix : (a b c d : Bool) → (a && (b && (c && d))) ≡ ((c && a) && (d && b))
    mix true true true true = refl
    mix true true true false = refl
    mix true true false d = refl
    mix true false true true = refl
    mix true false true false = refl
    mix true false false d = refl
    mix false b true d = refl
    mix false b false d = refl

all_low : (ws : List ℕ) → all (λ w. ltb w 65536) ws ≡ true → Low ws (length ws)
all_low [] e i h = absurd (omega arith)
all_low (w ∷ ws) e zero h = ltb-true w 65536 (and_parts (ltb w 65536) (all (λ w. ltb w 65536) ws) e).0
all_low (w ∷ ws) e (suc i) h = all_low ws (and_parts (ltb w 65536) (all (λ w. ltb w 65536) ws) e).1 i (omega arith)

-- std's word for a test of all, and the model's.
all_list : {X : Type 0} (p : X → Bool) (xs : List X) → list_all p xs ≡ all p xs
all_list p [] = refl
all_list p (x ∷ xs) = ap (λ b. p x && b) (all_list p xs)

pub nogood_taken : (lists ws : List ℕ) → 0 < length ws → list_all (λ w. ltb w 65536) ws ≡ true → branch? lists (branch_of ws (length ws)) ≡ nogood? lists ws
nogood_taken lists ws l e =
    branch_taken lists ws (length ws) (omega arith) (all_low ws (sym (all_list (λ w. ltb w 65536) ws) ∙ e)) ∙ ap (λ xs. all (listed? lists) xs && apart? xs) (take_all (length ws) ws (omega arith)) ∙ sym (ap (λ b. b && (all (listed? lists) ws && apart? ws)) (some ws l))
  where
    some : (ws : List ℕ) → 0 < length ws → some? ws ≡ true
    some [] l = absurd (omega arith)
    some (w ∷ ws) l = refl

pub nogood_empty : (lists ws : List ℕ) → length ws ≡ 0 → nogood? lists ws ≡ false
nogood_empty lists [] e = refl
nogood_empty lists (w ∷ ws) e = absurd (omega arith)

-- A word from 65,536 on is no listed assignment.
pub nogood_refused : (lists ws : List ℕ) → length lists ≤ 200 → list_all (λ w. ltb w 65536) ws ≡ false → nogood? lists ws ≡ false
nogood_refused lists ws few e = ap (λ b. some? ws && (b && apart? ws)) (unlisted ws (sym (all_list (λ w. ltb w 65536) ws) ∙ e)) ∙ and_false (some? ws)
  where
    unlisted : (ws : List ℕ) → all (λ w. ltb w 65536) ws ≡ false → all (listed? lists) ws ≡ false
    unlisted [] e = absurd (false≢true (sym e))
    unlisted (w ∷ ws) e = elim (cases_Bool (ltb w 65536)) [
      | inl t ↦ (let r : all (λ w. ltb w 65536) ws ≡ false = sym (ap (λ b. b && all (λ w. ltb w 65536) ws) t) ∙ e in ap (λ b. listed? lists w && b) (unlisted ws r) ∙ and_false (listed? lists w))
      | inr f ↦ (let big : 65536 ≤ w = ltb-false w 65536 f in ap (λ b. (b && has (get_or lists (grp w) 0) (chan w)) && all (listed? lists) ws) (le-ltb (grp w) (length lists) (omega arith)))
    ]

-- A base is tested nogood by nogood.
pub base_turn : (lists words nogood rest : List ℕ) (n : ℕ) (b : Bool) → Begins words n nogood rest → n ≤ length nogood → b ≡ nogood? lists nogood → base? lists words ≡ (b && base? lists rest)
base_turn lists words nogood rest n b e l h =
    let long : length nogood ≡ n = let m = e.at_most in omega arith in
    let room : n ≤ length (nogood ++ rest) = let a = length-append nogood rest in omega arith in
    ap (base? lists) e.front ∙ base_step lists n (nogood ++ rest) room
    ∙ ap (λ xs. nogood? lists xs && base? lists (drop n (nogood ++ rest))) (take_at nogood rest n long)
    ∙ ap (λ xs. nogood? lists nogood && base? lists xs) (drop_at nogood rest n long)
    ∙ ap (λ c. c && base? lists rest) (sym h)

pub base_stops : (lists words nogood rest : List ℕ) (n : ℕ) → Begins words n nogood rest → length nogood < n → base? lists words ≡ false
base_stops lists words nogood rest n e l =
    let none : length rest ≡ 0 = ap length (e.short l) in
    let room : length (nogood ++ rest) < n = let a = length-append nogood rest in omega arith in
    ap (base? lists) e.front ∙ base_short lists n (nogood ++ rest) room
