-- What visits leave, and what they answer.
use Rattle.std.specs.Prelude.{◌≡◌, ℕ, ◌⊎◌, List, [], ◌∷◌, ◌++◌, length, take, drop}
use Rattle.rules.specs.Meanings.{Meaning}
use Rattle.rules.specs.Plans.{Plan}
use Rattle.rules.specs.declared.refusal.Refusal.{Refusal}
use Rattle.branching.specs.Order.{OrderMeaning}
use Rattle.branching.specs.Policy.{PolicyMeaning}
use Rattle.model.specs.Words.{recorded}
use Rattle.model.specs.Remains.{family, Dead}
use Rattle.model.specs.Moves.{State, start, restarting}
use Rattle.propagation.specs.Benches.{Beyond}
use Rattle.laws.specs.Orders.{Order, Policy}
use Rattle.laws.specs.Sittings.{Verdict, none, plan, unsettled, Leaves}
use Rattle.laws.specs.Runs.{Run, Found, Call, opening, sitting, restart, refused_sitting, refused_restart, history, calls}
use Rattle.laws.specs.Law.{Law, Continues}
use Rattle.search.specs.declared.held.OpenSearch.{OpenSearch}
use Rattle.search.specs.declared.held.Progress.{Progress}
use Rattle.search.specs.declared.held.Sat.{Sat}
use Rattle.search.specs.declared.held.Sat.TheVariants.{Plan as SatPlan, None as SatNone, Open as SatOpen}
use Rattle.search.specs.declared.regions.Regions.{Regions}
use Rattle.search.specs.Regions.{SameRegions, sizes}
use Rattle.search.specs.Ends.{came_to, counted}
use Rattle.search.specs.Turns.{state_of, KeptWords}
use Rattle.search.specs.Sittings.{Tells, Unopened}
use Rattle.search.specs.Restarts.{recall}
use Rattle.visits.specs.declared.Visit.{Visit}
use Rattle.visits.specs.Visits.{Makes, Made}

-- The state that the numbers of a search stand for, with the words of its branch and its base.
abbrev pub state_in : Regions → Progress → State
state_in r p = state_of p r.branch.now r.base.now

-- A call finds the open search in the state s.
abbrev pub Finds : List ℕ → Regions → OpenSearch → State → Type 0
Finds lists r t s = Found lists (recall t lists r.branch.now r.base.now) s

-- The verdict of an answer. A plan stands in the first bytes of its region.
abbrev pub verdict_of : List ℕ → Regions → Sat → Verdict
verdict_of lists r (SatPlan _) = plan (take (length lists) r.plan.now)
verdict_of lists r (SatNone _) = none
verdict_of lists r (SatOpen _) = unsettled

-- The plan region is written only with a plan, and only in its first bytes.
abbrev pub PlanLeft : List ℕ → Regions → Regions → Sat → Type 0
PlanLeft lists r r' (SatPlan _) = drop (length lists) r'.plan.now ≡ drop (length lists) r.plan.now
PlanLeft lists r r' (SatNone _) = r'.plan.now ≡ r.plan.now
PlanLeft lists r r' (SatOpen _) = r'.plan.now ≡ r.plan.now

-- The next call finds a search that is handed back open.
abbrev pub NextFinds : List ℕ → Regions → State → Sat → Type 0
NextFinds lists r end (SatPlan _) = Unit {0}
NextFinds lists r end (SatNone _) = Unit {0}
NextFinds lists r end (SatOpen t) = Finds lists r t end

-- A search that had used so many words of the base came to this state: what the regions that were found are left as.
pub record RegionsLeft (lists : List ℕ) (book : Meaning) (had : ℕ) (r r' : Regions) (sat : Sat) (end : State) : Type 0 where
  pub state : state_in r' (came_to sat) ≡ end
  -- the base has the recorded nogoods in its used words
  pub words : take (came_to sat).base_used r'.base.now ≡ recorded end.base
  pub used : (came_to sat).base_used ≡ length (recorded end.base)
  pub next : NextFinds lists r' end sat
  pub plan : PlanLeft lists r r' sat
  -- what is untouched
  pub beyond : Beyond (length lists) book.count r.domains.now r'.domains.now r.marks.now r'.marks.now r.ends.now r'.ends.now r.settled.now r'.settled.now
  pub kept : KeptWords (length lists) had (came_to sat).base_used r.branch.now r'.branch.now r.base.now r'.base.now
  pub same : SameRegions r r'

-- The regions that a sitting works in are as found.
pub record Unworked (r r' : Regions) : Type 0 where
  pub domains : r'.domains.now ≡ r.domains.now
  pub marks : r'.marks.now ≡ r.marks.now
  pub ends : r'.ends.now ≡ r.ends.now
  pub settled : r'.settled.now ≡ r.settled.now

-- The domains are what remains in the state, unless it is dead.
abbrev pub DomainsLeft : List ℕ → Meaning → Regions → State → Type 0
DomainsLeft lists book r s = Leaves lists book s (take (length lists) r.domains.now) ⊎ ((ms : List ℕ) × Leaves lists book s ms × Dead lists (family ms))

-- What one call that came to a state leaves in these regions: a sitting leaves what remains in the domains, any other call leaves all as found.
abbrev pub CallLeft : List ℕ → Meaning → Call → State → Regions → Regions → Type 0
CallLeft lists book (sitting order policy room allowance) end r r' = DomainsLeft lists book r' end
CallLeft lists book opening end r r' = Unworked r r'
CallLeft lists book restart end r r' = Unworked r r'
CallLeft lists book (refused_sitting number place) end r r' = Unworked r r'
CallLeft lists book (refused_restart number place) end r r' = Unworked r r'

-- What calls leave in them, made one after another, newest first, with the history that they made: what the last sitting left, or all as found where none was accepted.
pub data CallsLeft (lists : List ℕ) (book : Meaning) (r : Regions) : List Call → List State → Regions → Type 0 where
  none_made : {past : List State} {r' : Regions} → Unworked r r' → CallsLeft lists book r [] past r'
  sat_last : {order : Order} {policy : Policy} {room allowance : ℕ} {calls : List Call} {s : State} {past : List State} {r' : Regions} → DomainsLeft lists book r' s
      → CallsLeft lists book r (sitting order policy room allowance ∷ calls) (s ∷ past) r'
  restarted : {calls : List Call} {s : State} {past : List State} {r' r'' : Regions} → CallsLeft lists book r calls (s ∷ past) r' → Unworked r' r''
      → CallsLeft lists book r (restart ∷ calls) (restarting s ∷ s ∷ past) r''
  not_sat : {number place : ℕ} {calls : List Call} {past : List State} {r' r'' : Regions} → CallsLeft lists book r calls past r' → Unworked r' r''
      → CallsLeft lists book r (refused_sitting number place ∷ calls) past r''
  not_restarted : {number place : ℕ} {calls : List Call} {past : List State} {r' r'' : Regions} → CallsLeft lists book r calls past r' → Unworked r' r''
      → CallsLeft lists book r (refused_restart number place ∷ calls) past r''

-- Where the answer is a plan, the bytes are one; where it is none, there is none.
abbrev pub RightFor : List ℕ → Meaning → Regions → Sat → Type 0
RightFor lists book r (SatPlan _) = Plan lists book (take (length lists) r.plan.now)
RightFor lists book r (SatNone _) = (x : List ℕ) → Plan lists book x → ⊥
RightFor lists book r (SatOpen _) = Unit {0}

module _ {O P H Q : Type 0} (om : OrderMeaning H) (pm : PolicyMeaning Q) (order_holds : O → H) (policy_holds : P → Q) (book : Meaning) (lists : List ℕ) (r r' : Regions) where
  -- One visit to an open search: it comes to a call, and every run that came to what was found goes on by this call to what is left.
  pub record VisitedOnce (s : OpenSearch) (w w' : Visit O P) (sat : Sat) : Type 0 where
    pub call : Call
    pub end : State
    pub makes : Makes lists book (sizes r) (length r.branch.now) (length r.base.now) om pm order_holds policy_holds (state_in r s.at) w w' call (verdict_of lists r' sat) end
    pub continues : Continues lists book call (state_in r s.at) (verdict_of lists r' sat) end
    pub left : RegionsLeft lists book s.at.base_used r r' sat end
    pub work : CallLeft lists book call end r r'

  -- All visits of a list, or those up to the one that settles the search, were made on a search just opened. They are a run of calls, one for each visit that was made, behind the opening, and the law of
  -- runs holds of it.
  pub record Visited (ws ws' : List (Visit O P)) (sat : Sat) : Type 0 where
    pub asked : List Call
    pub end : State
    pub made : Made lists book (sizes r) (length r.branch.now) (length r.base.now) om pm order_holds policy_holds start ws ws' asked (verdict_of lists r' sat) end
    pub run : Run lists book (verdict_of lists r' sat) end
    pub law : Law lists book run
    pub calls : calls lists book run ≡ asked ++ opening ∷ []
    pub tells : Tells (counted sat) end
    pub right : RightFor lists book r' sat
    pub left : RegionsLeft lists book 0 r r' sat end
    pub work : CallsLeft lists book r asked (history lists book run) r'

-- The opening is refused, and all is as it was.
pub record Unvisited {O P : Type 0} (book : Meaning) (lists : List ℕ) (r r' : Regions) (ws ws' : List (Visit O P)) (e : Refusal) : Type 0 where
  pub refused : Unopened book lists e
  pub same_visits : ws' ≡ ws
  pub same_regions : r' ≡ r
