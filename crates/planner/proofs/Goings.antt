-- A sitting's answer takes the sittings and every run on.
use Rattle.std.proofs.Common.{◌≡◌, ℕ, zero, suc, ◌+◌, ◌*◌, ◌≢◌, List, [], ◌∷◌, ◌++◌, length, drop, Some, None, Ok, Err, Result, refl, vec_items, vec_len, Vec, sym, ap, ◌∙◌, subst, append_assoc, append-nil, arith}
use Rattle.std.proofs.lemmas.List.{take_at}
use Rattle.std.specs.Vec.{with_items}
use Rattle.rules.specs.Meanings.{Meaning, Lawful}
use Rattle.rules.specs.declared.refusal.Refusal.{Refusal}
use Rattle.rules.specs.Refusals.{told}
use Rattle.branching.specs.Order.{OrderMeaning}
use Rattle.branching.specs.Policy.{PolicyMeaning}
use Rattle.model.specs.Words.{recorded}
use Rattle.model.specs.Moves.{State}
use Rattle.propagation.specs.declared.records.RuleEnd.{RuleEnd}
use Rattle.propagation.specs.declared.records.Assignment.{Assignment}
use Rattle.laws.specs.Sittings.{Search, Verdict as Reached, none, plan, unsettled}
use Rattle.laws.specs.Requests.{sitting_refusal}
use Rattle.laws.specs.Runs.{Run, Call, calls, Found}
use Rattle.laws.specs.Law.{Law}
use Rattle.laws.proofs.Runs.{law}
use Rattle.search.specs.declared.held.Counts.{Counts}
use Rattle.search.specs.declared.held.Progress.{Progress}
use Rattle.search.specs.declared.held.OpenSearch.{OpenSearch}
use Rattle.search.specs.declared.held.Sat.{Sat}
use Rattle.search.specs.declared.held.Sat.TheVariants.{Plan as SatPlan, None as SatNone, Open as SatOpen}
use Rattle.search.specs.Turns.{state_of}
use Rattle.search.specs.Sittings.{lent, Tells, ComesTo as Sitting, Answers}
use Rattle.planner.specs.declared.memory.Memory.{Memory}
use Rattle.planner.specs.declared.solve.Settings.{Settings}
use Rattle.planner.specs.Answers.{Stands, Kept, lent_of, Written, Clear, asked, over_limits, Ready, Comes, SatOn}
use Rattle.planner.specs.Sittings.{Allowed, Between, between, left_by, SitsFrom, Ran, none_left, settled, goes_on, call_from, sittings}
use Rattle.planner.proofs.Bases.{written_on}
use Rattle.planner.proofs.Accepting.{none≢some, Spacious, refused_for, allowed}

-- What a vector holds after its slice was lent on: the slice.
pub lent_back : {X Z : Type 0} (v : Vec X Z) (ws : List X) → length ws ≡ length (vec_items v) → ws ≡ vec_items (with_items v ws)
lent_back v ws e = sym (take_at ws (drop (length ws) v.items) v.len (e ∙ sym v.ok.0))

-- What is lent, by equal slices.
pub lent_same : {O P : Type 0} (o : O) (p : P) (ds ds' ws ws' ms ms' : List ℕ) (es es' : List RuleEnd) (ss ss' : List Assignment) (xs xs' bs bs' : List ℕ)
    → ds ≡ ds' → ws ≡ ws' → ms ≡ ms' → es ≡ es' → ss ≡ ss' → xs ≡ xs' → bs ≡ bs' → lent ds ws ms es ss xs bs o p ≡ lent ds' ws' ms' es' ss' xs' bs' o p
lent_same o p ds ds' ws ws' ms ms' es es' ss ss' xs xs' bs bs' a b c d e f g = rw (a, b, c, d, e, f, g) refl

between_same : {H Q : Type 0} (s s' : State) (h h' : H) (q q' : Q) → s ≡ s' → h ≡ h' → q ≡ q' → between s h q ≡ between s' h' q'
between_same s s' h h' q q' a b c = rw (a, b, c) refl

pub kept_on : (r s t : Memory) → Kept r s → Kept s t → Kept r t
kept_on r s t a b = record {
  domains = b.domains ∙ a.domains;
  branch = b.branch ∙ a.branch;
  plan = b.plan ∙ a.plan;
  base = b.base ∙ a.base;
  marks = b.marks ∙ a.marks;
  ends = b.ends ∙ a.ends;
  settled = b.settled ∙ a.settled;
}

none_open : none ≡ unsettled → ⊥
none_open e = let z : ◌≡◌ {A = ℕ} 0 1 = cc in omega arith

plan_open : (x : List ℕ) → plan x ≡ unsettled → ⊥
plan_open x e = let z : ◌≡◌ {A = ℕ} 0 1 = cc in omega arith

module _ {O P H Q : Type 0} (om : OrderMeaning H) (pm : PolicyMeaning Q) (oh : O → H) (ph : P → Q) (book : Meaning) (lists : List ℕ) (settings : Settings) where
  -- The search between two sittings, as the regions, the order and the policy have it.
  abbrev pub stand : OpenSearch → Memory → O → P → Between H Q
  stand s m o p = between (state_of s.at (vec_items m.branch) (vec_items m.base)) (oh o) (ph p)

  -- The sittings of a call have come from s, m, o and p to t, m', o' and p' by the calls made, and n are left: however these go on, so all of them go from the first.
  pub record Along (s : OpenSearch) (m : Memory) (o : O) (p : P) (n : ℕ) (t : OpenSearch) (m' : Memory) (o' : O) (p' : P) : Type 0 where
    pub kept : Kept m m'
    pub made : List Call
    pub onward : (v : Reached) (c : Between H Q) → (ran : Ran om pm lists book (vec_len m.base) settings.allowance n (stand t m' o' p') v c)
        → (all : Ran om pm lists book (vec_len m.base) settings.allowance settings.sittings (stand s m o p) v c)
        × (sittings om pm lists book (vec_len m.base) settings.allowance all ≡ sittings om pm lists book (vec_len m.base) settings.allowance ran ++ made)
    pub runs : (run : Stands book lists s (vec_items m.branch) (vec_items m.base)) → (next : Stands book lists t (vec_items m'.branch) (vec_items m'.base))
        × (calls lists book next ≡ made ++ calls lists book run) × Law lists book next
    pub clear : Clear s m → Clear t m'
    pub ready : Ready book lists settings.allowance s m → Ready book lists settings.allowance t m'
    pub moves : t.at.counts.moves + n * settings.allowance ≡ s.at.counts.moves + settings.sittings * settings.allowance

  -- What one sitting answers, and what it came to.
  abbrev pub Answer : OpenSearch → Memory → O → P → Memory → O → P → Result Sat (Refusal × OpenSearch) → Type 0
  Answer s m o p m' o' p' r = Answers om pm oh ph book s lists settings.allowance (lent_of m o p) (lent_of m' o' p') r

  abbrev pub Sits : OpenSearch → Memory → O → P → Memory → O → P → Reached → Progress → Type 0
  Sits s m o p m' o' p' v at = Sitting om pm oh ph book s lists settings.allowance (lent_of m o p) (lent_of m' o' p') v at

-- A run by the calls that were made.
called : {lists : List ℕ} {book : Meaning} {v : Reached} {s : State} {made more : List Call} (past : List Call) → (next : Run lists book v s) × (calls lists book next ≡ more ++ past) × Law lists book next → made ≡ more
    → (next : Run lists book v s) × (calls lists book next ≡ made ++ past) × Law lists book next
called past k e = (k.0, k.1 ∙ ap (λ (cs : List Call). cs ++ past) (sym e), k.2)

module _ {H Q : Type 0} (om : OrderMeaning H) (pm : PolicyMeaning Q) (lists : List ℕ) (book : Meaning) (room allowance : ℕ) where
  -- At most n sittings, which are the calls made.
  abbrev Sittings_by : ℕ → Between H Q → Reached → Between H Q → List Call → Type 0
  Sittings_by n b v c made = (ran : Ran om pm lists book room allowance n b v c) × (sittings om pm lists book room allowance ran ≡ made)

  -- A sitting that settles the search, to what it leaves by another name.
  settled_at : (n : ℕ) (b : Between H Q) (v : Reached) (t : Search) → SitsFrom om pm lists book room allowance b v t → v ≢ unsettled → (c : Between H Q) → left_by om pm b t ≡ c
      → Sittings_by (suc n) b v c (call_from om pm lists book room allowance b ∷ [])
  settled_at n b v t s closed c e = subst (λ (x : Between H Q). Sittings_by (suc n) b v x (call_from om pm lists book room allowance b ∷ [])) e (settled s closed, refl)

  -- One that leaves it open, and those that go on from there.
  goes_on_at : (n : ℕ) (b : Between H Q) (v : Reached) (t : Search) (c d : Between H Q) → SitsFrom om pm lists book room allowance b unsettled t → left_by om pm b t ≡ d → (rest : Ran om pm lists book room allowance n d v c)
      → Sittings_by (suc n) b v c (sittings om pm lists book room allowance rest ++ call_from om pm lists book room allowance b ∷ [])
  goes_on_at n b v t c d s e =
      subst (λ (x : Between H Q). (rest : Ran om pm lists book room allowance n x v c) → Sittings_by (suc n) b v c (sittings om pm lists book room allowance rest ++ call_from om pm lists book room allowance b ∷ []))
      e (λ rest. (goes_on s rest, refl))

module _ {O P H Q : Type 0} {om : OrderMeaning H} {pm : PolicyMeaning Q} {oh : O → H} {ph : P → Q} {book : Meaning} {lists : List ℕ} {settings : Settings} where
  pub along_first : Lawful book → (s : OpenSearch) (m : Memory) (o : O) (p : P) → Along om pm oh ph book lists settings s m o p settings.sittings s m o p
  along_first lawful s m o p = record {
    kept = record { domains = refl; branch = refl; plan = refl; base = refl; marks = refl; ends = refl; settled = refl };
    made = [];
    onward = λ v c ran. (ran, sym (append-nil _));
    runs = λ run. (run, refl, law lists book lawful unsettled _ run);
    clear = λ clear. clear;
    ready = λ ready. ready;
    moves = refl;
  }

  -- Where none is left the search stays as it stands.
  pub along_last : {s0 : OpenSearch} {m0 : Memory} {o0 : O} {p0 : P} {s : OpenSearch} {m : Memory} {o : O} {p : P} → Along om pm oh ph book lists settings s0 m0 o0 p0 zero s m o p
      → SatOn om pm book lists settings s0 m0 m (oh o0) (oh o) (ph p0) (ph p) (SatOpen s)
  along_last {s = s} {m = m} along =
      let all = along.onward unsettled _ none_left in (
        record { end = state_of s.at (vec_items m.branch) (vec_items m.base); ran = all.0; tells = record { moves = refl; closings = refl; restarts = refl } },
        refl,
        λ run. called _ (along.runs run) all.1,
        along.clear,
      )

  module _ {s0 : OpenSearch} {m0 : Memory} {o0 : O} {p0 : P} {n : ℕ} {s : OpenSearch} {m : Memory} {o : O} {p : P} (along : Along om pm oh ph book lists settings s0 m0 o0 p0 (suc n) s m o p) where
    room : length (vec_items m.base) ≡ vec_len m0.base
    room = sym m.base.ok.0 ∙ along.kept.base

    spacious : Ready book lists settings.allowance s m → Spacious (asked book lists settings.allowance s m)
    spacious ready = record {
      branch = omega (arith, ready.found.carried.groups, ready.roomy.1, m.branch.ok.0);
      domains = omega (arith, ready.found.carried.groups, ready.roomy.0, m.domains.ok.0);
      bench = omega (arith, ready.roomy.2, m.marks.ok.0);
      rules = omega (arith, ready.roomy.3, m.ends.ok.0);
      groups = omega (arith, ready.found.carried.groups, ready.roomy.4, m.settled.ok.0);
      plan = omega (arith, ready.found.carried.groups, ready.plan, m.plan.ok.0);
    }

    within : sitting_refusal (asked book lists settings.allowance s m) ≡ None → Allowed (vec_len m0.base) settings.allowance s.at.counts.moves
    within e = subst (λ (k : ℕ). Allowed k settings.allowance s.at.counts.moves) room (allowed (asked book lists settings.allowance s m) e)

    module _ (m' : Memory) (o' : O) (p' : P) where
      -- The sitting as a call, by the words of the base as they were at first.
      abbrev call : Call
      call = call_from om pm lists book (vec_len m0.base) settings.allowance (stand om pm oh ph book lists settings s m o p)

      -- A sitting that settles the search ends them.
      settling : (v : Reached) (at : Progress) (c : Counts) → v ≢ unsettled → (r : Sits om pm oh ph book lists settings s m o p m' o' p' v at) → Tells c r.end.state
          → (x : Comes om pm book lists (vec_len m0.base) settings (state_of s0.at (vec_items m0.branch) (vec_items m0.base)) (oh o0) (oh o') (ph p0) (ph p') v c)
          × (sittings om pm lists book (vec_len m0.base) settings.allowance x.ran ≡ call ∷ along.made)
      settling v at c closed r tells =
          let left : left_by om pm (stand om pm oh ph book lists settings s m o p) r.end ≡ between r.end.state (oh o') (ph p') = between_same _ _ _ _ _ _ refl (sym r.order) (sym r.policy) in
          let last = settled_at om pm lists book (vec_len m0.base) settings.allowance n _ v r.end (within r.accepted, rw room at r.sits) closed _ left in
          let all = along.onward v _ last.0 in
          (record { end = r.end.state; ran = all.0; tells = tells }, all.1 ∙ ap (λ (cs : List Call). cs ++ along.made) last.1)

      written : (v : Reached) (at : Progress) (r : Sits om pm oh ph book lists settings s m o p m' o' p' v at) → Clear s0 m0 → Written (vec_items m'.base) r.end.state.base
      written v at r clear = let c = along.clear clear in written_on (vec_items m.base) (vec_items m'.base) _ r.end.state.base s.at.base_used at.base_used c.0 c.1 r.kept.grown r.words r.kept.base

      running : (v : Reached) (at : Progress) (r : Sits om pm oh ph book lists settings s m o p m' o' p' v at) → (run : Stands book lists s0 (vec_items m0.branch) (vec_items m0.base))
          → (next : Run lists book v r.end.state) × (calls lists book next ≡ call ∷ along.made ++ calls lists book run) × Law lists book next
      running v at r run =
          let k = along.runs run in
          let g = (rw room at r.continues) k.0 in
          (g.0, g.2 ∙ ap (λ (cs : List Call). call ∷ cs) k.1, g.3)

      pub along_settled : (sat : Sat) → ((t : OpenSearch) → sat ≡ SatOpen t → ⊥) → Answer om pm oh ph book lists settings s m o p m' o' p' (Ok sat) → SatOn om pm book lists settings s0 m0 m' (oh o0) (oh o') (ph p0) (ph p') sat
      unfolding settling
      along_settled (SatPlan d) closed a =
          let s = a.settles in
          let x = settling _ d.at d.at.counts (plan_open _) s.0 s.1 in
          (x.0, s.0.state, λ run. called _ (running _ d.at s.0 run) x.1, λ clear. (written _ d.at s.0 clear, s.0.used))
      along_settled (SatNone d) closed a =
          let s = a.0 in
          let x = settling none d.at d.at.counts none_open s.0 s.1 in
          (x.0, s.0.state, λ run. called _ (running none d.at s.0 run) x.1, λ clear. (written none d.at s.0 clear, s.0.used))
      along_settled (SatOpen t) closed a = absurd (closed t refl)

      -- It is not refused, where the first was ready and all of them are within the limits.
      pub along_refused : Ready book lists settings.allowance s0 m0 → over_limits (vec_len m0.base) settings.allowance (s0.at.counts.moves + settings.sittings * settings.allowance) ≡ None
          → (e : Refusal × OpenSearch) → Answer om pm oh ph book lists settings s m o p m' o' p' (Err e) → ⊥
      along_refused ready within e a =
          let now = along.ready ready in
          none≢some _ _ within
          (subst (λ (k : ℕ). over_limits k settings.allowance (s0.at.counts.moves + settings.sittings * settings.allowance) ≡ Some (told e.0)) room
          (refused_for lists book _ now.stands (asked book lists settings.allowance s m) now.found (record { groups = refl; rules = refl }) (spacious now) (told e.0) a.number
          (s0.at.counts.moves + settings.sittings * settings.allowance) (omega (arith, along.moves))))

      one_less : (t : OpenSearch) → Answer om pm oh ph book lists settings s m o p m' o' p' (Ok (SatOpen t)) → t.at.counts.moves + n * settings.allowance ≡ s0.at.counts.moves + settings.sittings * settings.allowance
      one_less t a = omega (arith, along.moves, a.moves)

      still_ready : Kept m m' → (t : OpenSearch) → Answer om pm oh ph book lists settings s m o p m' o' p' (Ok (SatOpen t)) → Ready book lists settings.allowance s m → Ready book lists settings.allowance t m'
      still_ready k t a ready =
          let r = a.comes in
          record {
            stands = subst (λ (z : State). Run lists book unsettled z) (sym r.state) (r.continues ready.stands).0;
            found = subst (λ (z : State). Found lists (asked book lists settings.allowance t m') z) (sym r.state) a.next;
            roomy = (k.domains ∙ ready.roomy.0, k.branch ∙ ready.roomy.1, k.marks ∙ ready.roomy.2, k.ends ∙ ready.roomy.3, k.settled ∙ ready.roomy.4);
            plan = k.plan ∙ ready.plan;
          }

      -- An open one leaves one less.
      pub along_open : Kept m m' → (t : OpenSearch) → Answer om pm oh ph book lists settings s m o p m' o' p' (Ok (SatOpen t)) → Along om pm oh ph book lists settings s0 m0 o0 p0 n t m' o' p'
      along_open k t a =
          let r = a.comes in
          let here : stand om pm oh ph book lists settings t m' o' p' ≡ left_by om pm (stand om pm oh ph book lists settings s m o p) r.end = between_same _ _ _ _ _ _ r.state r.order r.policy in
          record {
            kept = kept_on m0 m m' along.kept k;
            made = call ∷ along.made;
            onward = λ v c ran.
                let this = goes_on_at om pm lists book (vec_len m0.base) settings.allowance n _ v r.end c _ (within r.accepted, rw room at r.sits) (sym here) ran in
                let all = along.onward v c this.0 in
                (all.0, all.1 ∙ ap (λ (cs : List Call). cs ++ along.made) this.1 ∙ append_assoc _ (call ∷ []) along.made);
            runs = λ run.
                subst (λ (z : State). (next : Run lists book unsettled z) × (calls lists book next ≡ call ∷ along.made ++ calls lists book run) × Law lists book next) (sym r.state) (running unsettled t.at r run);
            clear = λ clear. (subst (λ (z : State). Written (vec_items m'.base) z.base × (t.at.base_used ≡ length (recorded z.base))) (sym r.state) (written unsettled t.at r clear, a.next.carried.base_used));
            ready = λ ready. still_ready k t a (along.ready ready);
            moves = one_less t a;
          }
