-- From the opening of a search on a loaded job on.
use Rattle.std.proofs.Common.{◌≡◌, ℕ, zero, suc, ◌+◌, ◌*◌, List, [], ◌∷◌, ◌++◌, length, take, replicate, Some, None, Option, Ok, Err, Result, MatchResult, IsErrAnd, sym, refl, ap, ◌∙◌, subst, vec_items, vec_len, inl, inr, arith}
use Rattle.std.proofs.lemmas.List.{take_all}
use Rattle.rules.specs.Meanings.{Meaning}
use Rattle.rules.specs.declared.refusal.Refusal.{Refusal}
use Rattle.rules.specs.declared.gap.GapEntry.{GapEntry}
use Rattle.rules.specs.declared.table.TableEntry.{TableEntry}
use Rattle.branching.specs.Order.{OrderMeaning}
use Rattle.branching.specs.Policy.{PolicyMeaning, geometric}
use Rattle.branching.specs.Fewest.{fewest_first}
use Rattle.branching.specs.Layer.{Layer, last_conflict}
use Rattle.model.specs.Words.{branch_of, recorded}
use Rattle.model.specs.Moves.{State, start}
use Rattle.laws.specs.Sittings.{Verdict as Reached, unsettled}
use Rattle.laws.specs.Runs.{Run, Call, opening, calls}
use Rattle.laws.specs.Law.{Law}
use Rattle.search.specs.declared.held.Counts.{Counts}
use Rattle.search.specs.declared.held.OpenSearch.{OpenSearch}
use Rattle.search.specs.declared.held.Sat.{Sat}
use Rattle.search.specs.Ends.{counted, came_to}
use Rattle.search.specs.Turns.{state_of}
use Rattle.search.specs.Sittings.{Opened, Unopened}
use Rattle.jobs.specs.declared.load.Loaded.{Loaded}
use Rattle.jobs.specs.declared.fault.LoadFault.{LoadFault}
use Rattle.jobs.specs.declared.fault.RecordFault.{RecordFault}
use Rattle.jobs.specs.declared.judge.Room.{Room}
use Rattle.jobs.specs.Judged.{fault, place}
use Rattle.jobs.specs.Jobs.{State as Job, after, tally, held, Sound, Accepts, Refuses}
use Rattle.jobs.specs.Numbers.{numbered}
use Rattle.jobs.proofs.Decides.{first_is_one, end_stops}
use Rattle.jobs.specs.Books.{book_at, book_of}
use Rattle.planner.specs.declared.answer.Answer.{Answer}
use Rattle.planner.specs.declared.error.PlanError.{PlanError}
use Rattle.planner.specs.declared.error.PlanError.TheVariants.{Refused, NoMemory}
use Rattle.planner.specs.declared.memory.Memory.{Memory}
use Rattle.planner.specs.declared.solve.Settings.{Settings}
use Rattle.planner.specs.declared.store.Store.{Store}
use Rattle.jobs.specs.Jobs.{places}
use Rattle.planner.specs.Stores.{Stored, Unstored}
use Rattle.jobs.proofs.Binds.{book_binds}
use Rattle.planner.specs.Sittings.{sittings}
use Rattle.planner.specs.Answers.{Shaped, Roomy, over_limits, refusal_of, StandsFor, Written, Clear, Ready, Comes, SatOn, Searched, reached, told_by, Answered, Unanswered, RefusedAsLoaded, RefusedAsDue, program, program_order, AnsweredByProgram}
use Rattle.planner.proofs.Accepting.{opens, none≢some}

-- The book of what was loaded.
pub book_same : (bs : List ℕ) (s : Job) (n : Loaded) (gs : List GapEntry) (ts : List TableEntry) → n ≡ held s → gs ≡ s.gaps → ts ≡ s.tables → book_at bs n gs ts ≡ book_of bs s
book_same bs s n gs ts e f h = rw (e, f, h, take_all (length s.gaps) s.gaps (omega arith), take_all (length s.tables) s.tables (omega arith)) refl

length_branch_of : (ws : List ℕ) (n : ℕ) → length (branch_of ws n) ≡ n
length_branch_of ws zero = refl
length_branch_of ws (suc n) = ap suc (length_branch_of ws n)

-- A search just opened is ready for sittings.
pub opened_ready : (book : Meaning) (lists : List ℕ) (s : OpenSearch) → Opened book lists s → (allowance : ℕ) (m : Memory)
    → Roomy (length lists) book.count m → vec_len m.plan ≡ length lists → Ready book lists allowance s m
opened_ready book lists s o allowance m roomy plan =
    let branch = vec_items m.branch in
    let words = vec_items m.base in
    record {
      stands = subst (λ (t : State). Run lists book unsettled t) (sym (o.state branch words)) o.begins.0;
      found = record {
        carried = record {
          groups = o.groups;
          branch_length = sym (length_branch_of branch s.at.branch_len);
          base_used = rw (o.used) refl;
          moves = refl;
          since = refl;
        };
        listed = refl;
        branch = refl;
        base = rw (o.used) refl;
      };
      roomy = roomy;
      plan = plan;
    }

-- It has made no moves, so its sittings are within the limits where the settings are.
pub opened_within : (book : Meaning) (lists : List ℕ) (s : OpenSearch) → Opened book lists s → (settings : Settings) (m : Memory) → vec_len m.base ≡ settings.base_words
    → refusal_of settings ≡ None → over_limits (vec_len m.base) settings.allowance (s.at.counts.moves + settings.sittings * settings.allowance) ≡ None
opened_within book lists s o settings m base e =
    let none_made : s.at.counts.moves ≡ 0 = ap (λ (t : State). t.moves) (o.state (vec_items m.branch) (vec_items m.base)) in
    let made : s.at.counts.moves + settings.sittings * settings.allowance ≡ settings.sittings * settings.allowance = omega (arith, none_made) in
    rw (base, made) e

-- Of a store that has what the job says.
module _ (bs : List ℕ) (store : Store) (st : Stored bs store) (book : Meaning) (lists : List ℕ) (same_book : book ≡ book_of bs (after bs st.0)) (same_lists : lists ≡ (after bs st.0).lists) where
  -- A search on it is opened.
  pub open_taken : (e : Refusal) → Unopened book lists e → ⊥
  open_taken e r = none≢some _ _ (rw (same_book, same_lists) (opens bs places st.0 st.1)) r

  -- And ready in the regions that are made for it.
  pub new_ready : (s : OpenSearch) → Opened book lists s → (allowance : ℕ) (m : Memory) → vec_len m.plan ≡ vec_len store.lists
      → Roomy (vec_len store.lists) (vec_len store.gaps + vec_len store.tables) m → Ready book lists allowance s m
  new_ready s o allowance m plan roomy =
      let groups : vec_len store.lists ≡ length lists = store.lists.ok.0 ∙ (ap length st.3 ∙ sym (ap length same_lists)) in
      let count : book.count ≡ length (after bs st.0).gaps + length (after bs st.0).tables = ap (λ (b : Meaning). b.count) same_book ∙ (book_binds bs places st.0 st.1).count in
      let rules : vec_len store.gaps + vec_len store.tables ≡ book.count = omega (arith, count, store.gaps.ok.0, ap length st.4, store.tables.ok.0, ap length st.5) in
      opened_ready book lists s o allowance m (rw (groups, rules) at roomy) (plan ∙ groups)

module _ {H Q : Type 0} (om : OrderMeaning H) (pm : PolicyMeaning Q) where
  -- The base of new regions has nothing recorded.
  clear_new : (book : Meaning) (lists : List ℕ) (s : OpenSearch) (words : ℕ) (m : Memory) → Opened book lists s → vec_items m.base ≡ replicate words 0 → Clear s m
  clear_new book lists s words m o e = rw (o.used) ((words, e), refl)

  -- What came from a state with nothing made, told of the job's own lists and book.
  abbrev Told : Meaning → List ℕ → ℕ → State → Settings → H → H → Q → Q → Reached → Counts → List ℕ → Type 0
  Told book lists room from settings h h' q q' v c words = (r : Comes om pm book lists room settings from h h' q q' v c) × (run : Run lists book v r.end)
      × (calls lists book run ≡ sittings om pm lists book room settings.allowance r.ran ++ opening ∷ []) × Law lists book run × Written words r.end.base

  abbrev Home : Meaning → List ℕ → ℕ → State → Settings → H → H → Q → Q → Reached → Memory → Sat → Type 0
  Home book lists room from settings h h' q q' v m t = (x : Told book lists room from settings h h' q q' v (counted t) (vec_items m.base)) × ((came_to t).base_used ≡ length (recorded x.0.end.base)) × StandsFor m x.0.end t

  pub came_home : (m m' : Meaning) (ls ls' : List ℕ) (s : OpenSearch) (settings : Settings) (h h' : H) (q q' : Q) (t : Sat) (v : Reached) (r r' : Memory) → Opened m ls s
      → SatOn om pm m ls settings s r r' h h' q q' t → m ≡ m' → ls ≡ ls' → vec_len r.base ≡ settings.base_words → reached (take (length ls) (vec_items r'.plan)) t ≡ v → vec_items r.base ≡ replicate settings.base_words 0
      → Home m' ls' settings.base_words start settings h h' q q' v r' t
  came_home m m' ls ls' s settings h h' q q' t v r r' o x eb el er ev ez =
      let state = o.state (vec_items r.branch) (vec_items r.base) in
      let begun : (run : Run ls m unsettled (state_of s.at (vec_items r.branch) (vec_items r.base))) × (calls ls m run ≡ opening ∷ []) =
      subst (λ (z : State). (run : Run ls m unsettled z) × (calls ls m run ≡ opening ∷ [])) (sym state) (o.begins.0, o.begins.2) in
      let k = x.2 begun.0 in
      let w = x.3 (clear_new m ls s settings.base_words r o ez) in
      let called = k.1 ∙ ap (λ (cs : List Call). sittings om pm ls m (vec_len r.base) settings.allowance x.0.ran ++ cs) begun.1 in
      let home : Home m ls (vec_len r.base) (state_of s.at (vec_items r.branch) (vec_items r.base)) settings h h' q q' (reached (take (length ls) (vec_items r'.plan)) t) r' t =
      ((x.0, k.0, called, k.2, w.0), w.1, x.1) in
      rw (state, er, eb, ev, el) at home

  -- The same, told in other words.
  told_same : (book : Meaning) (lists : List ℕ) (settings : Settings) (h h' : H) (q q' : Q) (v w : Reached) (c d : Counts) (ws xs : List ℕ) → w ≡ v → d ≡ c → xs ≡ ws
      → (x : Told book lists settings.base_words start settings h h' q q' v c ws) → (y : Told book lists settings.base_words start settings h h' q q' w d xs) × (y.0.end ≡ x.0.end)
  told_same book lists settings h h' q q' v w c d ws xs ev ec ew x = rw (ev, ec, ew) (x, refl)

  -- What is told of a search is an answer.
  pub answered : (bs : List ℕ) (settings : Settings) (h h' : H) (q q' : Q) (m : Memory) (t : Sat) (x : Searched om pm bs settings h h' q q' m t) (a : Answer)
      → Shaped (vec_len m.plan) a.verdict → told_by a.verdict ≡ reached (vec_items m.plan) t → a.counts ≡ counted t → a.base ≡ m.base → (y : Answered om pm bs settings h h' q q' a) × (y.came.end ≡ x.came.end)
  answered bs settings h h' q q' m t x a shaped verdict counts base =
      let k = told_same (book_of bs (after bs x.job)) (after bs x.job).lists settings h h' q q' _ _ _ _ _ _ verdict counts (ap vec_items base) (x.came, x.run, x.called, x.law, x.written) in (
        record {
          job = x.job;
          accepts = x.accepts;
          within = x.within;
          shaped = subst (λ (n : ℕ). Shaped n a.verdict) x.plan shaped;
          base = ap vec_len base ∙ x.base;
          came = k.0.0;
          run = k.0.1;
          called = k.0.2;
          law = k.0.3;
          written = k.0.4;
        },
        k.1,
      )

pub one_some : {X : Type 0} (x y : X) → Some x ≡ Some y → x ≡ y
one_some x y e = cc

-- A job is loaded or has one first fault.
module _ (bs : List ℕ) (m : Room) where
  fault_stops : (f : LoadFault) (i : ℕ) → Refuses bs m f i → Sound bs m i → ⊥
  fault_stops f i r s = none≢some _ _ s.fits r.faulty

  pub apart : (i : ℕ) → Accepts bs m i → (f : LoadFault) (k : ℕ) → Refuses bs m f k → ⊥
  apart i a f k r =
      let e = first_is_one (Sound bs m) i k a.before (end_stops bs m i a) r.before (fault_stops f k r) in
      none≢some _ _ (subst (λ (j : ℕ). fault bs m (tally (after bs j)) ≡ None) e a.fits) r.faulty

  pub one_fault : (f g : LoadFault) (i k : ℕ) → Refuses bs m f i → Refuses bs m g k → ◌≡◌ {A = ℕ × ℕ} (numbered f.fault, f.offset) (numbered g.fault, g.offset)
  one_fault f g i k r s =
      let e = first_is_one (Sound bs m) i k r.before (fault_stops f i r) s.before (fault_stops g k s) in
      let t : Refuses bs m f k = subst (λ (j : ℕ). Refuses bs m f j) e r in
      let a : f.fault ≡ g.fault = cc (t.faulty, s.faulty) in
      let b : f.offset ≡ g.offset = t.placed ∙ (ap (λ (y : RecordFault). place (tally (after bs k)) y) a ∙ sym s.placed) in
      rw (a, b) refl

-- What comes of a job decides which jobs are refused, and how.
module _ (bs : List ℕ) (settings : Settings) where
  pub as_due : {A : Type 0} (P : A → Type 0) (r : Result A PlanError) → MatchResult r P (Unanswered bs settings)
      → ((a : A) → P a → ((i : ℕ) × Accepts bs places i) × (refusal_of settings ≡ None)) → RefusedAsDue bs settings r
  as_due P (Ok a) h has = record {
    faulty = λ f x. absurd (apart bs places (has a h).0.0 (has a h).0.1 f x.0 x.1);
    over = λ i x due e. absurd (none≢some _ _ (has a h).1 e);
    accepted = λ i x e. inr (a, refl);
  }
  as_due P (Err NoMemory) h has = record { faulty = λ f x. inl refl; over = λ i x due e. inl refl; accepted = λ i x e. inl refl }
  as_due P (Err (Refused e)) (inl u) has = record {
    faulty = λ f x. inr (e, refl, u.2 ∙ one_fault bs places u.0 f u.1.0 x.0 u.1.1 x.1);
    over = λ i x due d. absurd (apart bs places i x u.0 u.1.0 u.1.1);
    accepted = λ i x d. absurd (apart bs places i x u.0 u.1.0 u.1.1);
  }
  as_due P (Err (Refused e)) (inr u) has = record {
    faulty = λ f x. absurd (apart bs places u.0.0 u.0.1 f x.0 x.1);
    over = λ i x due d. inr (e, refl, one_some _ _ (sym u.1 ∙ d));
    accepted = λ i x d. absurd (none≢some _ _ d u.1);
  }

  pub answers_as_due : {H Q : Type 0} (om : OrderMeaning H) (pm : PolicyMeaning Q) (h h' : H) (q q' : Q) (r : Result Answer PlanError) → MatchResult r (Answered om pm bs settings h h' q q') (Unanswered bs settings)
      → RefusedAsDue bs settings r
  answers_as_due om pm h h' q q' r x = as_due (Answered om pm bs settings h h' q q') r x (λ a y. ((y.job, y.accepts), y.within))

  -- Where the settings are due no refusal, only the job's own faults are refused.
  pub as_loaded : {A : Type 0} (r : Result A PlanError) → refusal_of settings ≡ None → RefusedAsDue bs settings r → RefusedAsLoaded bs r
  as_loaded r e x = record { faulty = x.faulty; faultless = λ i a. x.accepted i a e }

  pub unanswered : (e : PlanError) → Unstored bs e → Unanswered bs settings e
  unanswered (Refused e) u = inl u
  unanswered NoMemory u = tt

-- An error that was passed on.
pub passed_on : {T E : Type 0} (r : Result T E) (G : E → Type 0) (P : T → Type 0) (Q : E → Type 0) → IsErrAnd r G → ((e : E) → G e → Q e) → MatchResult r P Q
passed_on (Ok x) G P Q g f = absurd g
passed_on (Err e) G P Q g f = f e g

-- The program's settings are due no refusal.
pub program_within : refusal_of program ≡ None
program_within = refl

-- So its answers are never refusals of a call.
pub by_program : (bs : List ℕ) (h h' : Layer (Unit {0})) (q q' : ℕ) (r : Result Answer PlanError) → h ≡ program_order → q ≡ 10 → MatchResult r (Answered (last_conflict fewest_first) geometric bs program h h' q q') (Unanswered bs program)
    → MatchResult r (AnsweredByProgram bs) (Unstored bs)
by_program bs h h' q q' (Ok a) e f x = (h', q', rw (e, f) at x)
by_program bs h h' q q' (Err NoMemory) e f x = tt
by_program bs h h' q q' (Err (Refused y)) e f (inl u) = u
by_program bs h h' q q' (Err (Refused y)) e f (inr u) = absurd (none≢some _ _ program_within u.1)

pub begins_with : (limit : ℕ) (kept : List ℕ) (candidate : Option ℕ) → limit ≡ 1 → kept ≡ [] → candidate ≡ None
    → ◌≡◌ {A = Layer (Unit {0})} (record { limit = limit; kept = kept; candidate = candidate; below = tt }) program_order
begins_with limit kept candidate a b c = rw (a, b, c) refl
