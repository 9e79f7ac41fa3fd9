-- What the visits of a list come to, made one after another.
use Rattle.std.specs.Prelude.{◌≡◌, ℕ, ◌≢◌, List, [], ◌∷◌, ◌++◌, length, Some, None}
use Rattle.rules.specs.Meanings.{Meaning}
use Rattle.branching.specs.Order.{OrderMeaning}
use Rattle.branching.specs.Policy.{PolicyMeaning}
use Rattle.model.specs.Moves.{State, restarting}
use Rattle.laws.specs.Orders.{held_after, behaviour, moved_on, cutoffs}
use Rattle.laws.specs.Sittings.{Search, begun, Verdict, unsettled, Sits}
use Rattle.laws.specs.Requests.{Request, sitting_refusal, restart_refusal}
use Rattle.laws.specs.Runs.{Found, WithBook, Call, sitting, restart, refused_sitting, refused_restart}
use Rattle.search.specs.Regions.{Sizes}
use Rattle.visits.specs.declared.Visit.{Visit}
use Rattle.visits.specs.declared.Visit.TheVariants.{Sitting, Restart}

-- Visits with regions of these sizes: those that are only written, the branch, and a base with room for so many words.
module _ (lists : List ℕ) (book : Meaning) (z : Sizes) (branch_size room : ℕ) where
  -- A call finds the search in the state s and all as the call before left it.
  pub record Asked (s : State) (q : Request) : Type 0 where
    pub found : Found lists q s
    pub same_book : WithBook book q
    pub sizes : record { domains = q.domains_size; marks = q.marks_size; ends = q.rule_places; settled = q.group_places; plan = q.plan_size } ≡ z
    pub branch : length q.branch ≡ branch_size
    pub base : length q.base ≡ room

  module _ {O P H Q : Type 0} (om : OrderMeaning H) (pm : PolicyMeaning Q) (order_holds : O → H) (policy_holds : P → Q) where
    abbrev pub sitting_by : O → P → ℕ → Visit O P
    sitting_by o p n = Sitting (record { order = o; policy = p; allowance = n })

    -- One visit to a search in the state s: the call that it comes to, what the visit then holds, and the verdict and the state that the call leaves. A refused call leaves all as it was.
    pub data Makes (s : State) : Visit O P → Visit O P → Call → Verdict → State → Type 0 where
      sits : {o o' : O} {p p' : P} {n : ℕ} → (q : Request) → Asked s q → q.allowance ≡ n → sitting_refusal q ≡ None
          → {v : Verdict} {t : Search} → Sits lists book (behaviour om (order_holds o)) (cutoffs pm (policy_holds p)) room n (begun s) v t
          → order_holds o' ≡ held_after om (order_holds o) t.events → policy_holds p' ≡ moved_on pm (policy_holds p) t.restarts
          → Makes s (sitting_by o p n) (sitting_by o' p' n) (sitting (behaviour om (order_holds o)) (cutoffs pm (policy_holds p)) room n) v t.state
      restarts : {p p' : P} → (q : Request) → Asked s q → restart_refusal q ≡ None → policy_holds p' ≡ pm.next (policy_holds p)
          → Makes s (Restart p) (Restart p') restart unsettled (restarting s)
      sitting_refused : {o : O} {p : P} {n : ℕ} → (q : Request) → Asked s q → q.allowance ≡ n → (number place : ℕ) → sitting_refusal q ≡ Some (number, place)
          → Makes s (sitting_by o p n) (sitting_by o p n) (refused_sitting number place) unsettled s
      restart_refused : {p : P} → (q : Request) → Asked s q → (number place : ℕ) → restart_refusal q ≡ Some (number, place)
          → Makes s (Restart p) (Restart p) (refused_restart number place) unsettled s

    -- The visits of a list made from the state s on, until one settles the search or none is left: what the list then holds, the calls that were made, newest first, and the verdict and the state that
    -- they left. Visits that were not made are as they were.
    pub data Made : State → List (Visit O P) → List (Visit O P) → List Call → Verdict → State → Type 0 where
      none_left : {s : State} → Made s [] [] [] unsettled s
      settles : {s t : State} {w w' : Visit O P} {ws : List (Visit O P)} {call : Call} {v : Verdict} → Makes s w w' call v t → v ≢ unsettled → Made s (w ∷ ws) (w' ∷ ws) (call ∷ []) v t
      goes_on : {s t u : State} {w w' : Visit O P} {ws ws' : List (Visit O P)} {call : Call} {calls : List Call} {v : Verdict} → Makes s w w' call unsettled t → Made t ws ws' calls v u
          → Made s (w ∷ ws) (w' ∷ ws') (calls ++ call ∷ []) v u

-- What two visits hold is the same.
abbrev pub Alike : {O P H Q : Type 0} → (O → H) → (P → Q) → Visit O P → Visit O P → Type 0
Alike oh ph (Sitting a) (Sitting b) = (oh a.order ≡ oh b.order) × (ph a.policy ≡ ph b.policy) × (a.allowance ≡ b.allowance)
Alike oh ph (Sitting a) (Restart q) = ⊥
Alike oh ph (Restart p) (Sitting b) = ⊥
Alike oh ph (Restart p) (Restart q) = ph p ≡ ph q

abbrev pub AllAlike : {O P H Q : Type 0} → (O → H) → (P → Q) → List (Visit O P) → List (Visit O P) → Type 0
AllAlike oh ph [] [] = Unit {0}
AllAlike oh ph [] (u ∷ us) = ⊥
AllAlike oh ph (w ∷ ws) [] = ⊥
AllAlike oh ph (w ∷ ws) (u ∷ us) = Alike oh ph w u × AllAlike oh ph ws us

-- The same visits from the same state, with regions of the same sizes, come to the same calls, to one verdict and one state, and to the same holdings.
abbrev pub MadeOnce : {O P H Q : Type 0} → OrderMeaning H → PolicyMeaning Q → (O → H) → (P → Q) → Type 0
MadeOnce {O = O} {P = P} om pm oh ph = (lists : List ℕ) (book : Meaning) (z : Sizes) (branch_size room : ℕ) (s : State) (ws us xs : List (Visit O P)) (cs ds : List Call) (v w : Verdict) (t u : State)
    → Made lists book z branch_size room om pm oh ph s ws us cs v t → Made lists book z branch_size room om pm oh ph s ws xs ds w u
    → AllAlike oh ph us xs × (cs ≡ ds) × (v ≡ w) × (t ≡ u)
