-- Runs of calls on one search.
use Rattle.std.specs.Prelude.{◌≡◌, ℕ, List, [], ◌∷◌, length, take, Some, None}
use Rattle.rules.specs.Meanings.{Meaning}
use Rattle.model.specs.Words.{branch_of, recorded, base_of}
use Rattle.model.specs.Moves.{State, start, restarting}
use Rattle.laws.specs.Orders.{Order, IsLawfulOrder, Policy, IsLawfulPolicy}
use Rattle.laws.specs.Sittings.{Search, begun, Verdict, unsettled, Sits, trail}
use Rattle.laws.specs.Requests.{Request, open_refusal, sitting_refusal, restart_refusal}

-- The request has the numbers that the search carries.
pub record Carried (n : ℕ) (q : Request) (s : State) : Type 0 where
  pub groups : q.groups ≡ n
  pub branch_length : q.branch_length ≡ length s.branch
  pub base_used : q.base_used ≡ length (recorded s.base)
  pub moves : q.moves ≡ s.moves
  pub since : q.since ≡ s.since

-- It finds the lists, the branch and the used base words as the call before left them.
pub record Found (lists : List ℕ) (q : Request) (s : State) : Type 0 where
  pub carried : Carried (length lists) q s
  pub listed : q.lists ≡ lists
  pub branch : branch_of q.branch q.branch_length ≡ s.branch
  pub base : take q.base_used q.base ≡ recorded s.base

-- The state that the words and numbers of a request stand for, at counts of closings and restarts that no call asks for.
abbrev pub standing : Request → ℕ → ℕ → State
standing q closings restarts = record {
  branch = branch_of q.branch q.branch_length;
  base = base_of (take q.base_used q.base);
  moves = q.moves;
  closings = closings;
  restarts = restarts;
  since = q.since;
}

pub record WithBook (book : Meaning) (q : Request) : Type 0 where
  pub groups : q.book_groups ≡ book.groups
  pub rules : q.book_rules ≡ book.count

-- A call on a search. A sitting has an order and a policy, by their answers in this call, the words of room in the base, and an allowance of moves; a refused call has the number and place that it answers.
pub data Call : Type 0 where
  opening : Call
  sitting : (order : Order) (policy : Policy) (room allowance : ℕ) → Call
  restart : Call
  refused_sitting : (number place : ℕ) → Call
  refused_restart : (number place : ℕ) → Call

module _ (lists : List ℕ) (book : Meaning) where
  -- The calls made on a search since it was opened, with the verdict and the state they left. A refused call, whatever it was given besides the search, leaves both.
  pub data Run : Verdict → State → Type 0 where
    opened : (q : Request) → q.lists ≡ lists → WithBook book q → open_refusal q ≡ None → Run unsettled start
    sat : {s : State} → Run unsettled s
        → (q : Request) → Found lists q s → WithBook book q → sitting_refusal q ≡ None
        → (order : Order) → IsLawfulOrder order → (policy : Policy) → IsLawfulPolicy policy
        → {v : Verdict} {t : Search} → Sits lists book order policy (length q.base) q.allowance (begun s) v t → Run v t.state
    restarted : {s : State} → Run unsettled s → (q : Request) → Found lists q s → restart_refusal q ≡ None → Run unsettled (restarting s)
    sitting_refused : {s : State} → Run unsettled s → (q : Request) → Carried (length lists) q s → (number place : ℕ) → sitting_refusal q ≡ Some (number, place) → Run unsettled s
    restart_refused : {s : State} → Run unsettled s → (q : Request) → Carried (length lists) q s → (number place : ℕ) → restart_refusal q ≡ Some (number, place) → Run unsettled s

  -- The states at all points of a run, after each move, newest first.
  abbrev pub history : {v : Verdict} {s : State} → Run v s → List State
  history (opened q l b e) = start ∷ []
  history (sat run q f b e order lo policy lp sits) = trail lists book order policy (length q.base) sits (history run)
  history (restarted {s = s} run q f e) = restarting s ∷ history run
  history (sitting_refused run q f n p e) = history run
  history (restart_refused run q f n p e) = history run

  -- The calls of a run, newest first.
  abbrev pub calls : {v : Verdict} {s : State} → Run v s → List Call
  calls (opened q l b e) = opening ∷ []
  calls (sat run q f b e order lo policy lp sits) = sitting order policy (length q.base) q.allowance ∷ calls run
  calls (restarted run q f e) = restart ∷ calls run
  calls (sitting_refused run q f n p e) = refused_sitting n p ∷ calls run
  calls (restart_refused run q f n p e) = refused_restart n p ∷ calls run
