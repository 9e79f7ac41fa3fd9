-- The theorems on runs of calls.
use Rattle.std.specs.Prelude.{◌≡◌, ℕ, ◌+◌, ◌*◌, ◌<◌, ◌≤◌, true, ◌≢◌, ◌⊎◌, List, ◌∷◌, ◌++◌, length, Some, None, slice_index}
use Rattle.std.specs.List.{AllByRecursion}
use Rattle.rules.specs.Meanings.{Meaning, Lawful}
use Rattle.rules.specs.Plans.{Plan}
use Rattle.model.specs.Decisions.{Decision, Branch, Nogood}
use Rattle.model.specs.Words.{recorded}
use Rattle.model.specs.Moves.{State, restarting, Reach}
use Rattle.laws.specs.Orders.{Order, IsLawfulOrder, Policy, IsLawfulPolicy}
use Rattle.laws.specs.Sizes.{IsLawfulOn, IsLawfulEverywhere}
use Rattle.laws.specs.Jobs.{fewest}
use Rattle.laws.specs.Sittings.{Search, begun, Verdict, plan, unsettled, Leaves, Sits}
use Rattle.laws.specs.Words.{branch?, whole_base, base?}
use Rattle.laws.specs.Requests.{Request, Refusal, first_of, empty_from, is_branch_sound, is_base_sound, sitting_refusal, restart_refusal}
use Rattle.laws.specs.Runs.{Run, sitting, restart, refused_sitting, refused_restart, Carried, Found, WithBook, standing}
use Rattle.laws.specs.Law.{Law, Continues}

-- The same sitting comes to one verdict and one search.
abbrev pub SitsOnce : Type 0
SitsOnce = (lists : List ℕ) (book : Meaning) (order : Order) (policy : Policy) (room n : ℕ) (s : Search) (v w : Verdict) (t u : Search)
    → Sits lists book order policy room n s v t → Sits lists book order policy room n s w u → (v ≡ w) × (t ≡ u)

-- And there is one: what remains always exists, and every sitting comes to a verdict, on any number of groups, where the order is right on so many.
abbrev pub RemainsExists : Type 0
RemainsExists = (lists : List ℕ) (book : Meaning) → Lawful book → (s : State) → (masks : List ℕ) × Leaves lists book s masks

abbrev pub SitsExists : Type 0
SitsExists = (lists : List ℕ) (book : Meaning) → length lists ≤ 200 → Lawful book → (order : Order) → IsLawfulOrder order → (policy : Policy) (room n : ℕ) (s : Search)
    → (v : Verdict) × (t : Search) × Sits lists book order policy room n s v t

abbrev pub SitsExistsOn : Type 0
SitsExistsOn = (lists : List ℕ) (book : Meaning) → Lawful book → (order : Order) → IsLawfulOn (length lists) order → (policy : Policy) (room n : ℕ) (s : Search)
    → (w : Verdict) × (u : Search) × Sits lists book order policy room n s w u

-- An order that is right everywhere is right on any number of groups, and one that is lawful on at most 200.
abbrev pub RightOn : Type 0
RightOn = (order : Order) (n : ℕ) → (IsLawfulEverywhere order → IsLawfulOn n order) × (IsLawfulOrder order → n ≤ 200 → IsLawfulOn n order)

-- Fewest first is right everywhere.
abbrev pub FewestEverywhere : Type 0
FewestEverywhere = IsLawfulEverywhere fewest

-- A sitting is a chain of the moves of `model`: by a lawful order on at most 200 groups, and on any number by an order that is right on so many.
abbrev pub SitsReaches : Type 0
SitsReaches = (lists : List ℕ) (book : Meaning) → length lists ≤ 200 → (order : Order) (policy : Policy) (room : ℕ) → IsLawfulOrder order → IsLawfulPolicy policy
    → (n : ℕ) (s : Search) (v : Verdict) (t : Search) → Sits lists book order policy room n s v t → Reach lists book room s.state t.state

abbrev pub SitsReachesOn : Type 0
SitsReachesOn = (lists : List ℕ) (book : Meaning) (order : Order) (policy : Policy) (room : ℕ) → IsLawfulOn (length lists) order → IsLawfulPolicy policy
    → (n : ℕ) (s : Search) (w : Verdict) (u : Search) → Sits lists book order policy room n s w u → Reach lists book room s.state u.state

-- Where it ends open, it has made just the moves allowed.
abbrev pub OpenSpends : Type 0
OpenSpends = (lists : List ℕ) (book : Meaning) (order : Order) (policy : Policy) (room n : ℕ) (s t : Search)
    → Sits lists book order policy room n s unsettled t → t.state.moves ≡ s.state.moves + n

-- "plan" comes with a plan of the lists and the book: from any state, by any order and policy, whether a run came to it or not.
abbrev pub PlansArePlans : Type 0
PlansArePlans = (lists : List ℕ) (book : Meaning) → Lawful book → book.groups ≡ length lists
    → (order : Order) (policy : Policy) (room n : ℕ) (s : Search) (x : List ℕ) (t : Search) → Sits lists book order policy room n s (plan x) t → Plan lists book x

-- The law, whole.
abbrev pub RunsLawful : Type 0
RunsLawful = (lists : List ℕ) (book : Meaning) → Lawful book → (v : Verdict) (s : State) (run : Run lists book v s) → Law lists book run

-- An accepted sitting by an order and a policy carries every run on, by one call: the sitting by that order and policy, with the room and the allowance of its request.
abbrev pub CarriesOn : Order → Policy → Type 0
CarriesOn order policy = (lists : List ℕ) (book : Meaning) → Lawful book → (s : State) (q : Request) → Found lists q s → WithBook book q → sitting_refusal q ≡ None
    → (v : Verdict) (t : Search) → Sits lists book order policy (length q.base) q.allowance (begun s) v t
    → Continues lists book (sitting order policy (length q.base) q.allowance) s v t.state

abbrev pub SittingContinues : Type 0
SittingContinues = (order : Order) → IsLawfulOrder order → (policy : Policy) → IsLawfulPolicy policy → CarriesOn order policy

-- So do an accepted restart, and a sitting and a restart that are refused, each by its own call.
abbrev pub RestartContinues : Type 0
RestartContinues = (lists : List ℕ) (book : Meaning) → Lawful book → (s : State) (q : Request) → Found lists q s → restart_refusal q ≡ None
    → Continues lists book restart s unsettled (restarting s)

abbrev pub RefusedContinues : Type 0
RefusedContinues = (lists : List ℕ) (book : Meaning) → Lawful book → (s : State) (q : Request) → Carried (length lists) q s
    → (number place : ℕ)
    → (sitting_refusal q ≡ Some (number, place) → Continues lists book (refused_sitting number place) s unsettled s)
    × (restart_refusal q ≡ Some (number, place) → Continues lists book (refused_restart number place) s unsettled s)

-- What an accepted call is given stands for a state, whether a run left it or not.
abbrev pub AcceptedStands : Type 0
AcceptedStands = (q : Request) (closings restarts : ℕ) → (sitting_refusal q ≡ None) ⊎ (restart_refusal q ≡ None) → Found q.lists q (standing q closings restarts)

-- So in a contract the run goes on by the sitting alone, wherever the request is accepted.
abbrev pub AcceptedContinues : Order → Policy → Type 0
AcceptedContinues order policy = (book : Meaning) → Lawful book → (q : Request) → WithBook book q → sitting_refusal q ≡ None → (closings restarts : ℕ)
    → (v : Verdict) (t : Search) → Sits q.lists book order policy (length q.base) q.allowance (begun (standing q closings restarts)) v t
    → Continues q.lists book (sitting order policy (length q.base) q.allowance) (standing q closings restarts) v t.state

-- The test of a branch passes just where it has listed assignments, none twice and none of a group taken before.
abbrev pub BranchTested : Type 0
BranchTested = (lists : List ℕ) (ds : List Decision) → (branch? lists ds ≡ true → Branch lists ds) × (Branch lists ds → branch? lists ds ≡ true)

-- The words of recorded nogoods are read as these nogoods; and the test of a base passes just where its words are nogoods recorded.
abbrev pub BaseTested : Type 0
BaseTested = ((ns : List (List ℕ)) → whole_base (recorded ns) ≡ Some ns)
    × ((lists ws : List ℕ) → base? lists ws ≡ true → (ns : List (List ℕ)) × (ws ≡ recorded ns) × AllByRecursion (Nogood lists) ns)
    × ((lists : List ℕ) (ns : List (List ℕ)) → AllByRecursion (Nogood lists) ns → base? lists (recorded ns) ≡ true)

-- A refusal is that of a check which no other that fails comes before; without one, no check fails.
abbrev pub FirstRefusal : Type 0
FirstRefusal = (checks : List Refusal)
    → ((r : ℕ × ℕ) → first_of checks ≡ Some r → (before after : List Refusal) × (checks ≡ before ++ Some r ∷ after) × AllByRecursion (λ c. c ≡ None) before)
    × (first_of checks ≡ None → AllByRecursion (λ c. c ≡ None) checks)

-- Number 3 comes with the lowest group whose list is 0, and does not come where no list is.
abbrev pub LowestEmpty : Type 0
LowestEmpty = (lists : List ℕ)
    → ((number g : ℕ) → empty_from 0 lists ≡ Some (number, g) → (number ≡ 3) × (g < length lists) × (slice_index lists g ≡ 0) × ((h : ℕ) → h < g → slice_index lists h ≢ 0))
    × (empty_from 0 lists ≡ None → AllByRecursion (λ m. m ≢ 0) lists)

-- A call that finds the regions as the call before left them passes the tests of the branch and of the base, and the branch has room.
abbrev pub Undisturbed : Type 0
Undisturbed = (lists : List ℕ) (book : Meaning) (v : Verdict) (s : State) → Run lists book v s
    → (q : Request) → Found lists q s → (is_branch_sound q ≡ true) × (is_base_sound q ≡ true) × (q.branch_length < 64 * q.groups)
