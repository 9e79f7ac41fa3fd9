-- The visits made so far, and how the rest goes on from them.
use Rattle.std.proofs.Common.{◌≡◌, ℕ, suc, ◌+◌, ◌<◌, ◌≤◌, ◌≢◌, List, [], ◌∷◌, ◌++◌, length, get_or, take, drop, slice_set, refl, sym, ap, ◌∙◌, subst, append_assoc, add-one, arith, length-append}
use Rattle.std.proofs.lemmas.List.{append-nil, take_all, drop_all, set_split, drop-drop, drop-set-lt, take_more_set}
use Rattle.std.proofs.Math.Seq.{drop-cons}
use Rattle.rules.specs.Meanings.{Meaning}
use Rattle.branching.specs.Order.{OrderMeaning}
use Rattle.branching.specs.Policy.{PolicyMeaning}
use Rattle.model.specs.Moves.{State, start, restarting}
use Rattle.laws.specs.Sittings.{Verdict, unsettled}
use Rattle.laws.specs.Runs.{Run, Call, opening, restart, history, calls}
use Rattle.laws.specs.Law.{Law, Continues}
use Rattle.search.specs.declared.held.OpenSearch.{OpenSearch}
use Rattle.search.specs.declared.held.Sat.{Sat}
use Rattle.search.specs.declared.held.Sat.TheVariants.{Plan as SatPlan, None as SatNone, Open as SatOpen}
use Rattle.search.specs.declared.regions.Regions.{Regions}
use Rattle.search.specs.Regions.{SameRegions, Sizes, sizes}
use Rattle.search.specs.Ends.{came_to, counted}
use Rattle.search.specs.Sittings.{Tells, Opened}
use Rattle.search.proofs.Along.{beyond_then, kept_then, same_then}
use Rattle.search.proofs.Turning.{length_branch_of}
use Rattle.visits.proofs.Calls.{base_written}
use Rattle.visits.specs.declared.Visit.{Visit}
use Rattle.visits.specs.Visits.{Makes, sits, restarts, sitting_refused, restart_refused, Made, none_left, settles, goes_on}
use Rattle.visits.specs.Answers.{state_in, Finds, verdict_of, PlanLeft, RegionsLeft, CallLeft, CallsLeft, none_made, sat_last, restarted, not_sat, not_restarted, RightFor, VisitedOnce, Visited}

sizes_from : (a a' b b' c c' d d' e e' : ℕ) → a' ≡ a → b' ≡ b → c' ≡ c → d' ≡ d → e' ≡ e
    → ◌≡◌ {A = Sizes} (record { domains = a'; marks = b'; ends = c'; settled = d'; plan = e' }) (record { domains = a; marks = b; ends = c; settled = d; plan = e })
sizes_from a a' b b' c c' d d' e e' f g h i j = rw (f, g, h, i, j) refl

-- The same regions have the same sizes.
sizes_same : (r r' : Regions) → SameRegions r r' → sizes r' ≡ sizes r
sizes_same r r' same = sizes_from _ _ _ _ _ _ _ _ _ _ same.domains_size same.marks_size same.ends_size same.settled_size same.plan_size

module _ {O P H Q : Type 0} (om : OrderMeaning H) (pm : PolicyMeaning Q) (oh : O → H) (ph : P → Q) (book : Meaning) (lists : List ℕ) (r : Regions) (ws : List (Visit O P)) where
  -- So many visits were made, which left these visits, this search and these regions: however the rest goes on from the state that they came to, so all go from the start.
  pub record Along (i : ℕ) (now : List (Visit O P)) (t : OpenSearch) (r' : Regions) : Type 0 where
    pub state : State
    pub asked : List Call
    pub rest : drop i now ≡ drop i ws
    pub onward : (ws' : List (Visit O P)) (cs : List Call) (v : Verdict) (u : State) → Made lists book (sizes r) (length r.branch.now) (length r.base.now) om pm oh ph state (drop i ws) ws' cs v u
        → Made lists book (sizes r) (length r.branch.now) (length r.base.now) om pm oh ph start ws (take i now ++ ws') (cs ++ asked) v u
    pub run : Run lists book unsettled state
    pub law : Law lists book run
    pub listed : calls lists book run ≡ asked ++ opening ∷ []
    pub left : RegionsLeft lists book 0 r r' (SatOpen t) state
    pub work : CallsLeft lists book r asked (history lists book run) r'

  pub along_first : (t : OpenSearch) → Opened book lists t → Along 0 ws t r
  along_first t o =
      let state = o.state r.branch.now r.base.now in
      record {
        state = start;
        asked = [];
        rest = refl;
        onward = λ ws' cs v u made. subst (λ (k : List Call). Made lists book (sizes r) (length r.branch.now) (length r.base.now) om pm oh ph start ws ws' k v u) (sym (append-nil cs)) made;
        run = o.begins.0;
        law = o.begins.3;
        listed = o.begins.2;
        left = record {
          state = state;
          words = rw (o.used) refl;
          used = o.used;
          next = record {
            carried = record {
              groups = o.groups;
              branch_length = sym (length_branch_of r.branch.now t.at.branch_len) ∙ ap (λ (x : State). length x.branch) state;
              base_used = o.used;
              moves = ap (λ (x : State). x.moves) state;
              since = ap (λ (x : State). x.since) state;
            };
            listed = refl;
            branch = ap (λ (x : State). x.branch) state;
            base = rw (o.used) refl;
          };
          plan = refl;
          beyond = record { domains = refl; marks = refl; ends = refl; settled = refl };
          kept = record { branch = refl; grown = omega arith; base = refl };
          same = base_written r r.base.now refl;
        };
        work = none_made (record { domains = refl; marks = refl; ends = refl; settled = refl });
      }

-- The counts of an answer are those of the state that it came to.
tells : (r : Regions) (sat : Sat) (end : State) → state_in r (came_to sat) ≡ end → Tells (counted sat) end
tells r (SatPlan d) end e = record { moves = ap (λ (x : State). x.moves) e; closings = ap (λ (x : State). x.closings) e; restarts = ap (λ (x : State). x.restarts) e }
tells r (SatNone d) end e = record { moves = ap (λ (x : State). x.moves) e; closings = ap (λ (x : State). x.closings) e; restarts = ap (λ (x : State). x.restarts) e }
tells r (SatOpen t) end e = record { moves = ap (λ (x : State). x.moves) e; closings = ap (λ (x : State). x.closings) e; restarts = ap (λ (x : State). x.restarts) e }

-- The law says what the answer means.
right : (lists : List ℕ) (book : Meaning) (r : Regions) (sat : Sat) (end : State) (run : Run lists book (verdict_of lists r sat) end) → Law lists book run → RightFor lists book r sat
right lists book r (SatPlan d) end run law = law.plan_right _ refl
right lists book r (SatNone d) end run law = law.none_right refl
right lists book r (SatOpen t) end run law = tt

-- An answer other than open has a verdict.
settled : (lists : List ℕ) (r : Regions) (sat : Sat) → ((t : OpenSearch) → sat ≡ SatOpen t → ⊥) → verdict_of lists r sat ≢ unsettled
settled lists r (SatPlan d) closed e = let z : ◌≡◌ {A = ℕ} 0 1 = cc in omega arith
settled lists r (SatNone d) closed e = let z : ◌≡◌ {A = ℕ} 0 1 = cc in omega arith
settled lists r (SatOpen t) closed e = closed t refl

-- What is left after an open search is left from its own beginning.
module _ (lists : List ℕ) (book : Meaning) (u : ℕ) (r r' r'' : Regions) (t : OpenSearch) (s : State) (before : RegionsLeft lists book u r r' (SatOpen t) s) where
  plan_then : (sat : Sat) → PlanLeft lists r' r'' sat → PlanLeft lists r r'' sat
  plan_then (SatPlan d) x = x ∙ ap (λ (bs : List ℕ). drop (length lists) bs) before.plan
  plan_then (SatNone d) x = x ∙ before.plan
  plan_then (SatOpen t) x = x ∙ before.plan

  left_then : (sat : Sat) (end : State) → RegionsLeft lists book t.at.base_used r' r'' sat end → RegionsLeft lists book u r r'' sat end
  left_then sat end x = record {
    state = x.state;
    words = x.words;
    used = x.used;
    next = x.next;
    plan = plan_then sat x.plan;
    beyond = beyond_then before.beyond x.beyond;
    kept = kept_then (length lists) u t.at.base_used (came_to sat).base_used r.branch.now r'.branch.now r''.branch.now r.base.now r'.base.now r''.base.now before.kept x.kept;
    same = same_then r r' r'' before.same x.same;
  }

-- A list that is one longer than its end, and begins with x, is x before it; one that is as long is its end.
one_front : (new h l past : List State) (x : State) → l ≡ new ++ h → length l ≡ suc (length h) → l ≡ x ∷ past → l ≡ x ∷ h
one_front [] h l past x e n f = absurd (let k = ap length e in omega arith)
one_front (y ∷ []) h l past x e n f = let same : y ≡ x = cc in rw same at e
one_front (y ∷ z ∷ new) h l past x e n f = absurd (let k = ap length e in let a = length-append new h in omega arith)

no_front : (new h l : List State) → l ≡ new ++ h → length l ≡ length h → l ≡ h
no_front [] h l e n = e
no_front (y ∷ new) h l e n = absurd (let k = ap length e in let a = length-append new h in omega arith)

-- One call more.
module _ {O P H Q : Type 0} (om : OrderMeaning H) (pm : PolicyMeaning Q) (oh : O → H) (ph : P → Q) (book : Meaning) (lists : List ℕ) (z : Sizes) (b k : ℕ) (r r' r'' : Regions) (cs : List Call) where
  work_on : (s : State) (w w' : Visit O P) (call : Call) (v : Verdict) (t : State) (run : Run lists book unsettled s) (next : Run lists book v t) (new : List State)
      → history lists book next ≡ new ++ history lists book run → Law lists book run → Law lists book next
      → Makes lists book z b k om pm oh ph s w w' call v t → CallsLeft lists book r cs (history lists book run) r' → CallLeft lists book call t r' r'' → CallsLeft lists book r (call ∷ cs) (history lists book next) r''
  work_on s w w' call v t run next new e law law' (sits q a n u m o p) before here =
      subst (λ (h : List State). CallsLeft lists book r (call ∷ cs) h r'') (sym law'.latest.1) (sat_last here)
  work_on s w w' call v t run next new e law law' (restarts q a u p) before here =
      let whole = one_front new (history lists book run) (history lists book next) law'.latest.0 (restarting s) e (omega (arith, law.one_more, law'.one_more)) law'.latest.1 in
      let past = law.latest.0 in
      subst (λ (h : List State). CallsLeft lists book r (restart ∷ cs) h r'') (sym (whole ∙ ap (λ (h : List State). restarting s ∷ h) law.latest.1))
      (restarted (subst (λ (h : List State). CallsLeft lists book r cs h r') law.latest.1 before) here)
  work_on s w w' call v t run next new e law law' (sitting_refused q a n number place u) before here =
      let same = no_front new (history lists book run) (history lists book next) e (law'.one_more ∙ sym law.one_more) in
      subst (λ (h : List State). CallsLeft lists book r (call ∷ cs) h r'') (sym same) (not_sat before here)
  work_on s w w' call v t run next new e law law' (restart_refused q a number place u) before here =
      let same = no_front new (history lists book run) (history lists book next) e (law'.one_more ∙ sym law.one_more) in
      subst (λ (h : List State). CallsLeft lists book r (call ∷ cs) h r'') (sym same) (not_restarted before here)

module _ {O P H Q : Type 0} (om : OrderMeaning H) (pm : PolicyMeaning Q) (oh : O → H) (ph : P → Q) (book : Meaning) (lists : List ℕ) where
  makes_same : (z z' : Sizes) (b b' k k' : ℕ) (s s' : State) (w w' : Visit O P) (call : Call) (v : Verdict) (t : State) → z ≡ z' → b ≡ b' → k ≡ k' → s ≡ s'
      → Makes lists book z b k om pm oh ph s w w' call v t → Makes lists book z' b' k' om pm oh ph s' w w' call v t
  makes_same z z' b b' k k' s s' w w' call v t ez eb ek es m = rw (ez, eb, ek, es) at m

  module _ (r : Regions) (ws : List (Visit O P)) (i : ℕ) (now : List (Visit O P)) (t : OpenSearch) (r' : Regions) (along : Along om pm oh ph book lists r ws i now t r') where
    -- The next visit finds the search.
    pub found_along : Finds lists r' t (state_in r' t.at)
    found_along = subst (λ (s : State). Finds lists r' t s) (sym along.left.state) along.left.next

    module _ (inside : i < length now) (d w' : Visit O P) (r'' : Regions) (sat : Sat) (x : VisitedOnce om pm oh ph book lists r' r'' t (get_or now i d) w' sat) where
      next_same : drop (i + 1) now ≡ drop (i + 1) ws
      next_same = sym (drop-drop 1 i now) ∙ (ap (λ (xs : List (Visit O P)). drop 1 xs) along.rest ∙ drop-drop 1 i ws)

      here : drop i ws ≡ get_or now i d ∷ drop (i + 1) ws
      here =
          let one : suc i ≡ i + 1 = omega arith in
          sym along.rest ∙ (drop-cons now i d inside ∙ ap (λ (k : ℕ). get_or now i d ∷ drop k now) one ∙ ap (λ (xs : List (Visit O P)). get_or now i d ∷ xs) next_same)

      makes : Makes lists book (sizes r) (length r.branch.now) (length r.base.now) om pm oh ph along.state (get_or now i d) w' x.call (verdict_of lists r'' sat) x.end
      makes =
          let same = along.left.same in
          makes_same (sizes r') (sizes r) (length r'.branch.now) (length r.branch.now) (length r'.base.now) (length r.base.now) (state_in r' t.at) along.state (get_or now i d) w' x.call (verdict_of lists r'' sat) x.end
          (sizes_same r r' same) same.branch_size same.base_size along.left.state x.makes

      goes : (next : Run lists book (verdict_of lists r'' sat) x.end) × (calls lists book next ≡ (x.call ∷ along.asked) ++ opening ∷ []) × Law lists book next
          × ((new : List State) × (history lists book next ≡ new ++ history lists book along.run))
      goes =
          let k = subst (λ (s : State). Continues lists book x.call s (verdict_of lists r'' sat) x.end) along.left.state x.continues along.run in
          (k.0, k.2 ∙ ap (λ (cs : List Call). x.call ∷ cs) along.listed, k.3, k.1)

      work : CallsLeft lists book r (x.call ∷ along.asked) (history lists book goes.0) r''
      work =
          work_on om pm oh ph book lists (sizes r) (length r.branch.now) (length r.base.now) r r' r'' along.asked along.state (get_or now i d) w' x.call (verdict_of lists r'' sat) x.end along.run goes.0 goes.3.0
          goes.3.1 along.law goes.2 makes along.work x.work

      left : RegionsLeft lists book 0 r r'' sat x.end
      left = left_then lists book 0 r r' r'' t along.state along.left sat x.end x.left

      -- A visit that settles the search is the last.
      pub along_settled : ((u : OpenSearch) → sat ≡ SatOpen u → ⊥) → Visited om pm oh ph book lists r r'' ws (slice_set now i w') sat
      along_settled closed =
          let later = drop (i + 1) ws in
          let v = verdict_of lists r'' sat in
          let made = along.onward (w' ∷ later) (x.call ∷ []) v x.end
          (subst (λ (xs : List (Visit O P)). Made lists book (sizes r) (length r.branch.now) (length r.base.now) om pm oh ph along.state xs (w' ∷ later) (x.call ∷ []) v x.end) (sym here)
          (settles makes (settled lists r'' sat closed))) in
          let list : slice_set now i w' ≡ take i now ++ w' ∷ later = set_split now i w' inside ∙ rw (sym next_same, add-one) refl in
          record {
            asked = x.call ∷ along.asked;
            end = x.end;
            made = rw list made;
            run = goes.0;
            law = goes.2;
            calls = goes.1;
            tells = tells r'' sat x.end x.left.state;
            right = right lists book r'' sat x.end goes.0 goes.2;
            left = left;
            work = work;
          }

    -- One visit more, where it leaves the search open.
    pub along_open : (inside : i < length now) (d w' : Visit O P) (r'' : Regions) (u : OpenSearch) → VisitedOnce om pm oh ph book lists r' r'' t (get_or now i d) w' (SatOpen u)
        → Along om pm oh ph book lists r ws (i + 1) (slice_set now i w') u r''
    along_open inside d w' r'' u x =
        let go = goes inside d w' r'' (SatOpen u) x in
        record {
          state = x.end;
          asked = x.call ∷ along.asked;
          rest = drop-set-lt (i + 1) now i w' (omega arith) ∙ next_same inside d w' r'' (SatOpen u) x;
          onward = λ ws' cs v s made.
              (let all = along.onward (w' ∷ ws') (cs ++ x.call ∷ []) v s
              (subst (λ (xs : List (Visit O P)). Made lists book (sizes r) (length r.branch.now) (length r.base.now) om pm oh ph along.state xs (w' ∷ ws') (cs ++ x.call ∷ []) v s) (sym (here inside d w' r'' (SatOpen u) x))
              (goes_on (makes inside d w' r'' (SatOpen u) x) made)) in
              let list : take (i + 1) (slice_set now i w') ++ ws' ≡ take i now ++ w' ∷ ws' = ap (λ (xs : List (Visit O P)). xs ++ ws') (take_more_set now i w' inside) ∙ append_assoc (take i now) (w' ∷ []) ws' in
              let asked : (cs ++ x.call ∷ []) ++ along.asked ≡ cs ++ x.call ∷ along.asked = append_assoc cs (x.call ∷ []) along.asked in
              rw list (rw asked at all));
          run = go.0;
          law = go.2;
          listed = go.1;
          left = left inside d w' r'' (SatOpen u) x;
          work = work inside d w' r'' (SatOpen u) x;
        }

    -- Where none is left, all were made.
    pub along_last : length ws ≤ i → length now ≡ length ws → Visited om pm oh ph book lists r r' ws now (SatOpen t)
    along_last all long =
        let made = along.onward [] [] unsettled along.state
        (subst (λ (xs : List (Visit O P)). Made lists book (sizes r) (length r.branch.now) (length r.base.now) om pm oh ph along.state xs [] [] unsettled along.state) (sym (drop_all i ws all)) none_left) in
        let list : now ≡ take i now ++ [] = sym (append-nil (take i now) ∙ take_all i now (omega arith)) in
        record {
          asked = along.asked;
          end = along.state;
          made = subst (λ (xs : List (Visit O P)). Made lists book (sizes r) (length r.branch.now) (length r.base.now) om pm oh ph start ws xs along.asked unsettled along.state) (sym list) made;
          run = along.run;
          law = along.law;
          calls = along.listed;
          tells = tells r' (SatOpen t) along.state along.left.state;
          right = tt;
          left = along.left;
          work = along.work;
        }
