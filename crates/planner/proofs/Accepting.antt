-- No call on a search is refused that finds what a run left, in regions as large as it asks for.
use Rattle.std.proofs.Common.{◌≡◌, ℕ, zero, suc, ◌+◌, ◌*◌, ◌≤◌, true, false, ◌&&◌, leb, eqb, ◌≢◌, Bool, List, [], ◌∷◌, length, Some, None, Option, sym, refl, ap, ◌∙◌, arith}
use Rattle.std.specs.List.{AllByRecursion}
use Rattle.std.proofs.lemmas.List.{length-take}
use Rattle.std.proofs.lemmas.Bool.{and_parts, and_from, eq-eqb, le-leb, lt-ltb, leb-true, false≢true}
use Rattle.rules.specs.Meanings.{Meaning}
use Rattle.model.specs.Moves.{State}
use Rattle.laws.specs.Sittings.{Verdict as Reached, unsettled}
use Rattle.laws.specs.Requests.{Request, Refusal, unless, first_of, empty_from, in_range, book_agrees, search_agrees, base_fits, branch_fits, work_fits, open_checks, sitting_checks, open_refusal, sitting_refusal}
use Rattle.laws.specs.Runs.{Run, opened, sat, restarted, sitting_refused, restart_refused, Found, WithBook}
use Rattle.laws.proofs.Refusals.{unless_none, all_none}
use Rattle.laws.proofs.Runs.{undisturbed}
use Rattle.search.specs.Calls.{opening}
use Rattle.planner.specs.Sittings.{Allowed}
use Rattle.planner.specs.Answers.{over_limits}
use Rattle.jobs.specs.declared.judge.Room.{Room}
use Rattle.jobs.specs.Jobs.{after, Accepts}
use Rattle.jobs.specs.Books.{book_of}
use Rattle.jobs.proofs.Goods.{loads_good}
use Rattle.jobs.proofs.Binds.{book_binds}

pub none≢some : {X : Type 0} (o : Option X) (x : X) → o ≡ None → o ≡ Some x → ⊥
none≢some o x p q = let z : ◌≡◌ {A = ℕ} 0 1 = cc in omega arith

pub passes : (b : Bool) (n : ℕ) → b ≡ true → unless b n ≡ None
passes b n e = ap (λ (x : Bool). unless x n) e

-- Where no check fails there is no refusal.
pub none_fails : (rs : List Refusal) → AllByRecursion (λ r. r ≡ None) rs → first_of rs ≡ None
none_fails [] h = refl
none_fails (r ∷ rs) h = rw (h.0) (none_fails rs h.1)

none_empty : (k : ℕ) (lists : List ℕ) → AllByRecursion (λ m. m ≢ 0) lists → empty_from k lists ≡ None
none_empty k [] h = refl
none_empty k (zero ∷ ms) h = absurd (h.0 refl)
none_empty k (suc m ∷ ms) h = none_empty (suc k) ms h.1

module _ (lists : List ℕ) (book : Meaning) where
  -- A run began with an opening that was not refused.
  pub run_opened : (v : Reached) (s : State) → Run lists book v s → open_refusal (opening lists book.groups book.count) ≡ None
  run_opened v s (opened q l b e) = rw (l, b.groups, b.rules) at e
  run_opened v s (sat {s = s0} run q f b e order lo policy lp sits) = run_opened unsettled s0 run
  run_opened v s (restarted {s = s0} run q f e) = run_opened unsettled s0 run
  run_opened v s (sitting_refused run q f n p e) = run_opened v s run
  run_opened v s (restart_refused run q f n p e) = run_opened v s run

-- The regions are as large as the request asks for.
pub record Spacious (q : Request) : Type 0 where
  pub branch : 64 * q.groups ≤ length q.branch
  pub domains : q.groups ≤ q.domains_size
  pub bench : 256 ≤ q.marks_size
  pub rules : 2 * q.book_rules ≤ q.rule_places
  pub groups : q.groups ≤ q.group_places
  pub plan : q.groups ≤ q.plan_size

amid : (a b c d e f g h : Refusal) → a ≡ None → b ≡ None → f ≡ None → g ≡ None → h ≡ None → first_of (a ∷ b ∷ c ∷ d ∷ e ∷ f ∷ g ∷ h ∷ []) ≡ first_of (c ∷ d ∷ e ∷ [])
amid a b c d e f g h x y z u v = rw (x, y, z, u, v) refl

between_true : (b : Bool) → ((true && b) && true) ≡ b
between_true true = refl
between_true false = refl

both_true : (a b c : Bool) → a ≡ true → c ≡ true → ((a && b) && c) ≡ b
both_true a b c x y = ap (λ (z : Bool). (z && b) && c) x ∙ ap (λ (z : Bool). (true && b) && z) y ∙ between_true b

-- A sitting that finds what a run left is refused for its limits alone.
due : (lists : List ℕ) (book : Meaning) (s : State) → Run lists book unsettled s → (q : Request) → Found lists q s → WithBook book q → Spacious q
    → sitting_refusal q ≡ over_limits (length q.base) q.allowance (q.moves + q.allowance)
due lists book s run q f b z =
    let o = all_none (open_checks (opening lists book.groups book.count)) (run_opened lists book unsettled s run) in
    let t = and_parts (in_range (opening lists book.groups book.count)) (book_agrees (opening lists book.groups book.count)) (unless_none _ 9 o.0) in
    let sound = undisturbed lists book unsettled s run q f in
    let counts : (in_range q && (book_agrees q && search_agrees q)) ≡ true =
    and_from (in_range q) (book_agrees q && search_agrees q) (rw (f.listed) t.0) (and_from (book_agrees q) (search_agrees q) (rw (f.listed, b.groups, b.rules) t.1) (eq-eqb q.groups (length q.lists) (f.carried.groups ∙ ap length (sym f.listed)))) in
    let used : q.base_used ≤ length q.base = omega (arith, f.carried.base_used, ap length f.base, length-take q.base_used q.base) in
    let work : (branch_fits q && work_fits q) ≡ true =
    and_from (branch_fits q) (work_fits q) (le-leb _ _ z.branch)
    (and_from _ _ (and_from (leb q.groups q.domains_size) (leb 256 q.marks_size) (le-leb _ _ z.domains) (le-leb _ _ z.bench))
    (and_from _ _ (and_from (leb (2 * q.book_rules) q.rule_places) (leb q.groups q.group_places) (le-leb _ _ z.rules) (le-leb _ _ z.groups)) (le-leb _ _ z.plan))) in
    let fits : (base_fits q && (branch_fits q && work_fits q)) ≡ leb (length q.base) 65536 =
    both_true (leb q.base_used (length q.base)) (leb (length q.base) 65536) (branch_fits q && work_fits q) (le-leb _ _ used) work in
    let empty : empty_from 0 q.lists ≡ None = rw (f.listed) o.1.0 in
    amid _ _ (unless (base_fits q && (branch_fits q && work_fits q)) 10) (unless (leb 1 q.allowance && leb q.allowance 1000000) 11) (unless (leb (q.moves + q.allowance) 100000000) 12) _ _ _ (passes _ 9 counts) empty (passes _ 13 sound.0) (passes _ 16 sound.1) (passes _ 20 (lt-ltb _ _ sound.2))
    ∙ ap (λ (x : Bool). first_of (unless x 10 ∷ unless (leb 1 q.allowance && leb q.allowance 1000000) 11 ∷ unless (leb (q.moves + q.allowance) 100000000) 12 ∷ [])) fits

-- More moves are no less a reason.
later : (b a m n : Bool) (e : ℕ × ℕ) → (m ≡ false → n ≡ false) → first_of (unless b 10 ∷ unless a 11 ∷ unless m 12 ∷ []) ≡ Some e → first_of (unless b 10 ∷ unless a 11 ∷ unless n 12 ∷ []) ≡ Some e
later false a m n e h r = r
later true false m n e h r = r
later true true false n e h r = rw (h refl) r
later true true true n e h r = absurd (none≢some _ e refl r)

other : (b : Bool) → (b ≡ true → ⊥) → b ≡ false
other true h = absurd (h refl)
other false h = refl

above : (n m k : ℕ) → n ≤ m → leb n k ≡ false → leb m k ≡ false
above n m k h e = other (leb m k) (λ d. false≢true (sym e ∙ le-leb n k (omega (arith, h, leb-true m k d))))

pub refused_for : (lists : List ℕ) (book : Meaning) (s : State) → Run lists book unsettled s → (q : Request) → Found lists q s → WithBook book q → Spacious q
    → (e : ℕ × ℕ) → sitting_refusal q ≡ Some e → (n : ℕ) → q.moves + q.allowance ≤ n → over_limits (length q.base) q.allowance n ≡ Some e
refused_for lists book s run q f b z e r n h =
    later (leb (length q.base) 65536) (leb 1 q.allowance && leb q.allowance 1000000) (leb (q.moves + q.allowance) 100000000) (leb n 100000000) e
    (above (q.moves + q.allowance) n 100000000 h) (sym (due lists book s run q f b z) ∙ r)

-- One that is not refused is within them.
pub allowed : (q : Request) → sitting_refusal q ≡ None → Allowed (length q.base) q.allowance q.moves
allowed q e =
    let c = all_none (sitting_checks q) e in
    let base = and_parts _ _ (and_parts (base_fits q) _ (unless_none _ 10 c.1.1.0)).0 in
    let allowance = and_parts (leb 1 q.allowance) (leb q.allowance 1000000) (unless_none _ 11 c.1.1.1.0) in
    record {
      base = leb-true (length q.base) 65536 base.1;
      some = leb-true 1 q.allowance allowance.0;
      most = leb-true q.allowance 1000000 allowance.1;
      moves = leb-true (q.moves + q.allowance) 100000000 (unless_none _ 12 c.1.1.1.1.0);
    }

-- No opening is refused on what a job without a fault says.
pub opens : (bs : List ℕ) (m : Room) (i : ℕ) → Accepts bs m i → open_refusal (opening (after bs i).lists (book_of bs (after bs i)).groups (book_of bs (after bs i)).count) ≡ None
opens bs m i a =
    let g = loads_good bs m i a in
    let b = book_binds bs m i a in
    let lists = (after bs i).lists in
    let book = book_of bs (after bs i) in
    let counts : ((leb 1 (length lists) && leb (length lists) 200) && (eqb book.groups (length lists) && leb book.count 4096)) ≡ true =
    and_from (leb 1 (length lists) && leb (length lists) 200) (eqb book.groups (length lists) && leb book.count 4096)
    (and_from (leb 1 (length lists)) (leb (length lists) 200) (le-leb _ _ g.0) (le-leb _ _ g.1.groups))
    (and_from (eqb book.groups (length lists)) (leb book.count 4096) (eq-eqb _ _ b.groups) (le-leb _ _ (omega (arith, b.count, g.1.rules)))) in
    none_fails (open_checks (opening lists book.groups book.count)) (passes _ 9 counts, (none_empty 0 lists g.1.lists, tt))
