-- What the restart call answers, and what its regions then hold.
use Rattle.std.specs.Prelude.{◌≡◌, ℕ, ◌≤◌, List, length, take, drop, Some, None, Ok, Err, Result}
use Rattle.rules.specs.Meanings.{Meaning, Lawful}
use Rattle.rules.specs.Refusals.{told}
use Rattle.rules.specs.declared.refusal.Refusal.{Refusal}
use Rattle.branching.specs.Policy.{PolicyMeaning}
use Rattle.model.specs.Words.{recorded}
use Rattle.model.specs.Moves.{State, nogoods, restarting}
use Rattle.laws.specs.Sittings.{unsettled}
use Rattle.laws.specs.Requests.{Request, restart_refusal}
use Rattle.laws.specs.Runs.{Carried, Found, restart, refused_restart}
use Rattle.laws.specs.Law.{Continues}
use Rattle.search.specs.declared.held.OpenSearch.{OpenSearch}
use Rattle.search.specs.Turns.{state_of}
use Rattle.search.specs.Calls.{asking}

-- The call as it is checked: it is given no book, no allowance and no other region.
abbrev pub recall : OpenSearch → List ℕ → List ℕ → List ℕ → Request
recall s lists branch base = asking s.groups s.at lists 0 0 0 (record { domains = 0; marks = 0; ends = 0; settled = 0; plan = 0 }) branch base

module _ {P Q : Type 0} (pm : PolicyMeaning Q) (policy_holds : P → Q) (s : OpenSearch) (lists branch base base' : List ℕ) (before after : P) where
  -- The restart move is made, at any cutoff.
  pub record Restarts (t : OpenSearch) : Type 0 where
    pub accepted : restart_refusal (recall s lists branch base) ≡ None
    pub groups : t.groups ≡ s.groups
    pub state : (words : List ℕ) → state_of t.at words base' ≡ restarting (state_of s.at branch base)
    pub words : take t.at.base_used base' ≡ recorded (nogoods (state_of s.at branch base))
    pub grown : s.at.base_used ≤ t.at.base_used
    pub past : drop t.at.base_used base' ≡ drop t.at.base_used base
    pub policy : policy_holds after ≡ pm.next (policy_holds before)
    pub next : (words : List ℕ) → Found lists (recall t lists words base') (restarting (state_of s.at branch base))
    -- every run that came to what was passed goes on by this restart, and the law of runs holds of it
    pub continues : (book : Meaning) → Lawful book → Continues lists book restart (state_of s.at branch base) unsettled (restarting (state_of s.at branch base))

  -- The call is refused: the first number of its checks with its place, the search handed back, and all as found. A run on any lists and book goes on by this refused restart with the search it had.
  pub record Unrestarted (e : Refusal × OpenSearch) : Type 0 where
    pub number : restart_refusal (recall s lists branch base) ≡ Some (told e.0)
    pub handed_back : e.1 ≡ s
    pub same_base : base' ≡ base
    pub same_policy : after ≡ before
    pub continues : (own : List ℕ) (book : Meaning) → Lawful book → (t : State) → Carried (length own) (recall s lists branch base) t → Continues own book (refused_restart (told e.0).0 (told e.0).1) t unsettled t

  abbrev pub RestartAnswers : Result OpenSearch (Refusal × OpenSearch) → Type 0
  RestartAnswers (Ok t) = Restarts t
  RestartAnswers (Err e) = Unrestarted e
