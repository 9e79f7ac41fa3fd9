-- What an open and a sitting answer, and what each region then holds.
use Rattle.std.specs.Prelude.{◌≡◌, ℕ, ◌+◌, ◌⊎◌, List, [], ◌∷◌, length, take, drop, Some, None, Ok, Err, Result}
use Rattle.rules.specs.Meanings.{Meaning, Lawful}
use Rattle.rules.specs.Plans.{Plan}
use Rattle.rules.specs.Refusals.{told}
use Rattle.rules.specs.declared.refusal.Refusal.{Refusal}
use Rattle.branching.specs.Order.{OrderMeaning}
use Rattle.branching.specs.Policy.{PolicyMeaning}
use Rattle.model.specs.Words.{recorded}
use Rattle.model.specs.Remains.{family, Dead}
use Rattle.model.specs.Moves.{State, start}
use Rattle.propagation.specs.declared.records.RuleEnd.{RuleEnd}
use Rattle.propagation.specs.declared.records.Assignment.{Assignment}
use Rattle.propagation.specs.Benches.{Beyond}
use Rattle.laws.specs.Orders.{held_after, behaviour, moved_on, cutoffs}
use Rattle.laws.specs.Sittings.{Search, begun, Verdict, none, plan, unsettled, Leaves, Sits}
use Rattle.laws.specs.Requests.{Request, open_refusal, sitting_refusal}
use Rattle.laws.specs.Runs.{Carried, Found, opening as opening_call, sitting, refused_sitting, Run, history, calls}
use Rattle.laws.specs.Law.{Law, Continues}
use Rattle.search.specs.declared.held.Counts.{Counts}
use Rattle.search.specs.declared.held.Progress.{Progress}
use Rattle.search.specs.declared.held.OpenSearch.{OpenSearch}
use Rattle.search.specs.declared.held.SettledSearch.{SettledSearch}
use Rattle.search.specs.declared.held.Sat.{Sat}
use Rattle.search.specs.declared.held.Sat.TheVariants.{Plan as SatPlan, None as SatNone, Open as SatOpen}
use Rattle.search.specs.declared.regions.Regions.{Regions}
use Rattle.search.specs.Turns.{state_of, KeptWords}
use Rattle.search.specs.Calls.{asking, opening}

-- What a sitting is lent, or leaves: the regions, the order and the policy.
pub record Lent (O P : Type 0) : Type 0 where
  pub domains : List ℕ
  pub branch : List ℕ
  pub marks : List ℕ
  pub ends : List RuleEnd
  pub settled : List Assignment
  pub plan : List ℕ
  pub base : List ℕ
  pub order : O
  pub policy : P

abbrev pub lent : {O P : Type 0} → List ℕ → List ℕ → List ℕ → List RuleEnd → List Assignment → List ℕ → List ℕ → O → P → Lent O P
lent ds ws ms es ss xs bs o p = record { domains = ds; branch = ws; marks = ms; ends = es; settled = ss; plan = xs; base = bs; order = o; policy = p }

-- What the regions hold, with the order and the policy.
abbrev pub lent_in : {O P : Type 0} → Regions → O → P → Lent O P
lent_in r o p = lent r.domains.now r.branch.now r.marks.now r.ends.now r.settled.now r.plan.now r.base.now o p

-- The call as it is checked.
abbrev pub request : {O P : Type 0} → OpenSearch → List ℕ → Meaning → ℕ → Lent O P → Request
request s lists book allowance r =
    asking s.groups s.at lists book.groups book.count allowance
    (record { domains = length r.domains; marks = length r.marks; ends = length r.ends; settled = length r.settled; plan = length r.plan })
    r.branch r.base

-- The counts are those of the state.
pub record Tells (c : Counts) (s : State) : Type 0 where
  pub moves : c.moves ≡ s.moves
  pub closings : c.closings ≡ s.closings
  pub restarts : c.restarts ≡ s.restarts

module _ {O P H Q : Type 0} (om : OrderMeaning H) (pm : PolicyMeaning Q) (order_holds : O → H) (policy_holds : P → Q) (book : Meaning) (s : OpenSearch) (lists : List ℕ) (allowance : ℕ) (found left : Lent O P) where
  -- The sitting is accepted and makes its moves to a verdict. The search then stands at these numbers.
  pub record ComesTo (v : Verdict) (p : Progress) : Type 0 where
    pub accepted : sitting_refusal (request s lists book allowance found) ≡ None
    -- the moves, from the state that was passed to the one that is left
    pub end : Search
    pub sits : Sits lists book (behaviour om (order_holds found.order)) (cutoffs pm (policy_holds found.policy)) (length found.base) allowance
        (begun (state_of s.at found.branch found.base)) v end
    pub state : state_of p left.branch left.base ≡ end.state
    pub words : take p.base_used left.base ≡ recorded end.state.base
    pub used : p.base_used ≡ length (recorded end.state.base)
    -- the order and the policy hold what the moves made of their holdings
    pub order : order_holds left.order ≡ held_after om (order_holds found.order) end.events
    pub policy : policy_holds left.policy ≡ moved_on pm (policy_holds found.policy) end.restarts
    -- the domains are what remains, unless the state is dead
    pub remain : Leaves lists book end.state (take (length lists) left.domains) ⊎ ((ms : List ℕ) × Leaves lists book end.state ms × Dead lists (family ms))
    -- what is untouched
    pub beyond : Beyond (length lists) book.count found.domains left.domains found.marks left.marks found.ends left.ends found.settled left.settled
    pub kept : KeptWords (length lists) s.at.base_used p.base_used found.branch left.branch found.base left.base
    -- every run that came to what was passed goes on by this sitting to what is left, and the law of runs holds of it
    pub continues : Continues lists book (sitting (behaviour om (order_holds found.order)) (cutoffs pm (policy_holds found.policy)) (length found.base) allowance)
        (state_of s.at found.branch found.base) v end.state

  -- A settled search stands at the numbers that it came to, and tells the counts.
  abbrev pub Settles : Verdict → SettledSearch → Type 0
  Settles v d = (r : ComesTo v d.at) × Tells d.at.counts r.end.state

  -- The first bytes of the plan region are a plan of the lists and the book, as `check` says it, whatever calls came before. The bytes behind them are untouched.
  pub record Planned (d : SettledSearch) : Type 0 where
    pub settles : Settles (plan (take (length lists) left.plan)) d
    pub is_plan : Plan lists book (take (length lists) left.plan)
    pub behind : drop (length lists) left.plan ≡ drop (length lists) found.plan

  -- An open search is handed back, as the next call finds it, after exactly the moves allowed.
  pub record Stays (t : OpenSearch) : Type 0 where
    pub comes : ComesTo unsettled t.at
    pub groups : t.groups ≡ s.groups
    pub moves : t.at.counts.moves ≡ s.at.counts.moves + allowance
    pub tells : Tells t.at.counts comes.end.state
    pub next : Found lists (request t lists book allowance left) comes.end.state
    pub plan : left.plan ≡ found.plan

  -- The sitting is refused: the first number of its checks with its place, the search handed back, and all as found. A run on any lists and book goes on by this refused sitting with the search it had.
  pub record Refused (e : Refusal × OpenSearch) : Type 0 where
    pub number : sitting_refusal (request s lists book allowance found) ≡ Some (told e.0)
    pub handed_back : e.1 ≡ s
    pub same : left ≡ found
    pub continues : (own : List ℕ) (meant : Meaning) → Lawful meant → (t : State) → Carried (length own) (request s lists book allowance found) t → Continues own meant (refused_sitting (told e.0).0 (told e.0).1) t unsettled t

  abbrev pub Answers : Result Sat (Refusal × OpenSearch) → Type 0
  Answers (Ok (SatPlan d)) = Planned d
  Answers (Ok (SatNone d)) = Settles none d × (left.plan ≡ found.plan)
  Answers (Ok (SatOpen t)) = Stays t
  Answers (Err e) = Refused e

-- An open gives a search with nothing on its branch and in its base, where a run begins by this call alone, with the law of runs; or the first number of its checks.
pub record Opened (book : Meaning) (lists : List ℕ) (t : OpenSearch) : Type 0 where
  pub accepted : open_refusal (opening lists book.groups book.count) ≡ None
  pub groups : t.groups ≡ length lists
  pub state : (branch base : List ℕ) → state_of t.at branch base ≡ start
  pub used : t.at.base_used ≡ 0
  pub begins : (run : Run lists book unsettled start) × (history lists book run ≡ start ∷ []) × (calls lists book run ≡ opening_call ∷ []) × Law lists book run

abbrev pub Unopened : Meaning → List ℕ → Refusal → Type 0
Unopened book lists e = open_refusal (opening lists book.groups book.count) ≡ Some (told e)
