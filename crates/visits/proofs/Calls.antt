-- What one call on an open search makes of a visit.
use Rattle.std.proofs.Common.{◌≡◌, ℕ, ◌*◌, List, length, drop, Ok, refl, sym, ap, ◌∙◌, subst, arith}
use Rattle.rules.specs.Meanings.{Meaning, Lawful}
use Rattle.rules.specs.Refusals.{told}
use Rattle.rules.specs.declared.refusal.Refusal.{Refusal}
use Rattle.branching.specs.Order.{OrderMeaning}
use Rattle.branching.specs.Policy.{PolicyMeaning}
use Rattle.model.specs.Moves.{restarting}
use Rattle.laws.specs.Orders.{behaviour, cutoffs}
use Rattle.laws.specs.Sittings.{Verdict}
use Rattle.laws.specs.Runs.{sitting, restart, refused_sitting, refused_restart}
use Rattle.laws.specs.Law.{Continues}
use Rattle.search.specs.declared.held.OpenSearch.{OpenSearch}
use Rattle.search.specs.declared.held.Sat.{Sat}
use Rattle.search.specs.declared.held.Sat.TheVariants.{Plan as SatPlan, None as SatNone, Open as SatOpen}
use Rattle.search.specs.declared.regions.Regions.{Regions}
use Rattle.search.specs.Regions.{SameRegions, sizes}
use Rattle.search.specs.Ends.{came_to}
use Rattle.search.specs.Sittings.{Lent, lent, lent_in, request, ComesTo, Answers, Refused}
use Rattle.search.specs.Restarts.{Restarts, Unrestarted}
use Rattle.visits.specs.declared.Visit.{Visit}
use Rattle.visits.specs.declared.Visit.TheVariants.{Sitting, Restart}
use Rattle.visits.specs.Visits.{Asked, Makes, sits, restarts, sitting_refused, restart_refused}
use Rattle.visits.specs.Answers.{state_in, Finds, verdict_of, PlanLeft, NextFinds, RegionsLeft, Unworked, VisitedOnce}

-- What the regions hold, lent by themselves.
abbrev Held : Type 0
Held = Lent (Unit {0}) (Unit {0})

abbrev pub held_in : Regions → Held
held_in r = lent_in {O = Unit {0}} {P = Unit {0}} r tt tt

-- The same with other words of the base.
abbrev pub only_base : Regions → List ℕ → Held
only_base r bs = lent {O = Unit {0}} {P = Unit {0}} r.domains.now r.branch.now r.marks.now r.ends.now r.settled.now r.plan.now bs tt tt

-- The call as it is checked finds the search.
asked : (lists : List ℕ) (book : Meaning) (r : Regions) (s : OpenSearch) (n : ℕ) → Finds lists r s (state_in r s.at)
    → Asked lists book (sizes r) (length r.branch.now) (length r.base.now) (state_in r s.at) (request s lists book n (held_in r))
asked lists book r s n f = record {
  found = record {
    carried = record { groups = f.carried.groups; branch_length = f.carried.branch_length; base_used = f.carried.base_used; moves = f.carried.moves; since = f.carried.since };
    listed = f.listed;
    branch = f.branch;
    base = f.base;
  };
  same_book = record { groups = refl; rules = refl };
  sizes = refl;
  branch = refl;
  base = refl;
}

module _ {O P H Q : Type 0} (om : OrderMeaning H) (pm : PolicyMeaning Q) (oh : O → H) (ph : P → Q) (book : Meaning) (lists : List ℕ) (r r' : Regions) (s : OpenSearch) (f : Finds lists r s (state_in r s.at)) where
  -- An accepted sitting.
  module _ (n : ℕ) (o o' : O) (p p' : P) (same : SameRegions r r') where
    sat_to : (v : Verdict) (sat : Sat) (x : ComesTo om pm oh ph book s lists n (lent_in r o p) (lent_in r' o' p') v (came_to sat)) → verdict_of lists r' sat ≡ v → NextFinds lists r' x.end.state sat → PlanLeft lists r r' sat
        → VisitedOnce om pm oh ph book lists r r' s (Sitting (record { order = o; policy = p; allowance = n })) (Sitting (record { order = o'; policy = p'; allowance = n })) sat
    sat_to v sat x e next plan =
        let call = sitting (behaviour om (oh o)) (cutoffs pm (ph p)) (length r.base.now) n in
        let w : Visit O P = Sitting (record { order = o; policy = p; allowance = n }) in
        let w' : Visit O P = Sitting (record { order = o'; policy = p'; allowance = n }) in
        let makes : Makes lists book (sizes r) (length r.branch.now) (length r.base.now) om pm oh ph (state_in r s.at) w w' call v x.end.state =
        sits (request s lists book n (held_in r)) (asked lists book r s n f) refl x.accepted x.sits x.order x.policy in
        record {
          call = call;
          end = x.end.state;
          makes = subst (λ (u : Verdict). Makes lists book (sizes r) (length r.branch.now) (length r.base.now) om pm oh ph (state_in r s.at) w w' call u x.end.state) (sym e) makes;
          continues = subst (λ (u : Verdict). Continues lists book call (state_in r s.at) u x.end.state) (sym e) x.continues;
          left = record { state = x.state; words = x.words; used = x.used; next = next; plan = plan; beyond = x.beyond; kept = x.kept; same = same };
          work = x.remain;
        }

    pub sat_on : (sat : Sat) → Answers om pm oh ph book s lists n (lent_in r o p) (lent_in r' o' p') (Ok sat)
        → VisitedOnce om pm oh ph book lists r r' s (Sitting (record { order = o; policy = p; allowance = n })) (Sitting (record { order = o'; policy = p'; allowance = n })) sat
    sat_on (SatPlan d) a = sat_to _ (SatPlan d) a.settles.0 refl tt a.behind
    sat_on (SatNone d) a = sat_to _ (SatNone d) a.0.0 refl tt a.1
    sat_on (SatOpen t) a = sat_to _ (SatOpen t) a.comes refl
        (record {
          carried = record { groups = a.next.carried.groups; branch_length = a.next.carried.branch_length; base_used = a.next.carried.base_used; moves = a.next.carried.moves; since = a.next.carried.since };
          listed = a.next.listed;
          branch = a.next.branch;
          base = a.next.base;
        }) a.plan

  -- A refused call leaves all as it was.
  module _ (same : SameRegions r r') (as_found : held_in r' ≡ held_in r) where
    stays : (t : OpenSearch) → t ≡ s → RegionsLeft lists book s.at.base_used r r' (SatOpen t) (state_in r s.at)
    stays t e =
        let branch : r'.branch.now ≡ r.branch.now = ap (λ (x : Held). x.branch) as_found in
        let base : r'.base.now ≡ r.base.now = ap (λ (x : Held). x.base) as_found in
        let here : Finds lists r' t (state_in r s.at) = rw (e, branch, base) f in
        record {
          state = rw (e, branch, base) refl;
          words = here.base;
          used = here.carried.base_used;
          next = here;
          plan = ap (λ (x : Held). x.plan) as_found;
          beyond = record {
            domains = ap (λ (x : Lent (Unit {0}) (Unit {0})). drop (length lists) x.domains) as_found;
            marks = ap (λ (x : Lent (Unit {0}) (Unit {0})). drop 256 x.marks) as_found;
            ends = ap (λ (x : Lent (Unit {0}) (Unit {0})). drop (2 * book.count) x.ends) as_found;
            settled = ap (λ (x : Lent (Unit {0}) (Unit {0})). drop (length lists) x.settled) as_found;
          };
          kept = record {
            branch = ap (λ (ws : List ℕ). drop (64 * length lists) ws) branch;
            grown = let u : t.at.base_used ≡ s.at.base_used = ap (λ (x : OpenSearch). x.at.base_used) e in omega arith;
            base = ap (λ (ws : List ℕ). drop t.at.base_used ws) base;
          };
          same = same;
        }

    unworked : Unworked r r'
    unworked = record {
      domains = ap (λ (x : Held). x.domains) as_found;
      marks = ap (λ (x : Held). x.marks) as_found;
      ends = ap (λ (x : Lent (Unit {0}) (Unit {0})). x.ends) as_found;
      settled = ap (λ (x : Lent (Unit {0}) (Unit {0})). x.settled) as_found;
    }

  -- A refused sitting.
  pub sat_refused : (n : ℕ) (o o' : O) (p p' : P) (e : Refusal) (t : OpenSearch) → Lawful book → SameRegions r r' → Refused om pm oh ph book s lists n (lent_in r o p) (lent_in r' o' p') (e, t)
      → VisitedOnce om pm oh ph book lists r r' s (Sitting (record { order = o; policy = p; allowance = n })) (Sitting (record { order = o'; policy = p'; allowance = n })) (SatOpen t)
  sat_refused n o o' p p' e t lawful same x =
      let order : o' ≡ o = ap (λ (y : Lent O P). y.order) x.same in
      let policy : p' ≡ p = ap (λ (y : Lent O P). y.policy) x.same in
      let here = asked lists book r s n f in
      let found : held_in r' ≡ held_in r = ap (λ (y : Lent O P). lent y.domains y.branch y.marks y.ends y.settled y.plan y.base tt tt) x.same in
      record {
        call = refused_sitting (told e).0 (told e).1;
        end = state_in r s.at;
        makes = rw (order, policy) (sitting_refused (request s lists book n (held_in r)) here refl (told e).0 (told e).1 x.number);
        continues = x.continues lists book lawful (state_in r s.at) here.found.carried;
        left = stays same found t x.handed_back;
        work = unworked same found;
      }

  -- A refused restart.
  pub restart_not_made : (p p' : P) (e : Refusal) (t : OpenSearch) → Lawful book → SameRegions r r' → held_in r' ≡ only_base r r'.base.now → Unrestarted pm ph s lists r.branch.now r.base.now r'.base.now p p' (e, t)
      → VisitedOnce om pm oh ph book lists r r' s (Restart p) (Restart p') (SatOpen t)
  restart_not_made p p' e t lawful same apart x = record {
    call = refused_restart (told e).0 (told e).1;
    end = state_in r s.at;
    makes = rw (x.same_policy) (restart_refused (request s lists book 0 (held_in r)) (asked lists book r s 0 f) (told e).0 (told e).1 x.number);
    continues = x.continues lists book lawful (state_in r s.at) f.carried;
    left = stays same (apart ∙ ap (only_base r) x.same_base) t x.handed_back;
    work = unworked same (apart ∙ ap (only_base r) x.same_base);
  }

  -- An accepted restart writes the base alone.
  pub restart_made : (p p' : P) (t : OpenSearch) → Lawful book → SameRegions r r' → held_in r' ≡ only_base r r'.base.now → Restarts pm ph s lists r.branch.now r.base.now r'.base.now p p' t
      → VisitedOnce om pm oh ph book lists r r' s (Restart p) (Restart p') (SatOpen t)
  restart_made p p' t lawful same apart x =
      let branch : r'.branch.now ≡ r.branch.now = ap (λ (y : Held). y.branch) apart in
      record {
        call = restart;
        end = restarting (state_in r s.at);
        makes = restarts (request s lists book 0 (held_in r)) (asked lists book r s 0 f) x.accepted x.policy;
        continues = x.continues book lawful;
        left = record {
          state = x.state r'.branch.now;
          words = x.words;
          used = (x.next r'.branch.now).carried.base_used;
          next = x.next r'.branch.now;
          plan = ap (λ (y : Held). y.plan) apart;
          beyond = record {
            domains = ap (λ (y : Held). drop (length lists) y.domains) apart;
            marks = ap (λ (y : Held). drop 256 y.marks) apart;
            ends = ap (λ (y : Held). drop (2 * book.count) y.ends) apart;
            settled = ap (λ (y : Held). drop (length lists) y.settled) apart;
          };
          kept = record { branch = ap (λ (ws : List ℕ). drop (64 * length lists) ws) branch; grown = x.grown; base = x.past };
          same = same;
        };
        work = record {
          domains = ap (λ (y : Held). y.domains) apart;
          marks = ap (λ (y : Held). y.marks) apart;
          ends = ap (λ (y : Held). y.ends) apart;
          settled = ap (λ (y : Held). y.settled) apart;
        };
      }

-- The regions stay the same where only words of the branch and the base are written.
pub base_written : (r : Regions) (bs : List ℕ) → length bs ≡ length r.base.now
    → SameRegions r (record r { branch = record r.branch { now = r.branch.now }; base = record r.base { now = bs } })
base_written r bs e = record {
  domains = refl;
  marks = refl;
  ends = refl;
  settled = refl;
  branch = refl;
  plan = refl;
  base = refl;
  domains_size = refl;
  marks_size = refl;
  ends_size = refl;
  settled_size = refl;
  branch_size = refl;
  plan_size = refl;
  base_size = e;
}
