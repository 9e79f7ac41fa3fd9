-- The law of runs.
use Rattle.std.specs.Prelude.{◌≡◌, ℕ, suc, ◌+◌, ◌*◌, ◌<◌, ◌≤◌, true, ◌≢◌, List, [], ◌∷◌, ◌++◌, length}
use Rattle.std.specs.List.{AllByRecursion}
use Rattle.rules.specs.Meanings.{Meaning}
use Rattle.rules.specs.Plans.{Complete, Breaks, Plan}
use Rattle.model.specs.Choices.{shut, combinations}
use Rattle.model.specs.Decisions.{takens}
use Rattle.model.specs.Moves.{State, start, nogoods, closing, restarting, deciding}
use Rattle.laws.specs.Sittings.{Verdict, none, plan, unsettled}
use Rattle.laws.specs.Runs.{Run, history, Call, calls}

-- What is shut out in one state is shut out in another.
abbrev pub Kept : State → State → Type 0
Kept s t = (x : List ℕ) → shut (nogoods s) x ≡ true → shut (nogoods t) x ≡ true

-- Of any two states, what is shut out in the earlier is shut out in the later. They are listed newest first.
abbrev pub KeptThroughout : List State → Type 0
KeptThroughout [] = Unit {0}
KeptThroughout (t ∷ past) = AllByRecursion (λ s. Kept s t) past × KeptThroughout past

-- The moves of a history that goes back to the start, and how many of them are closings and restarts. The states are listed newest first. Each comes of the one before it: by a closing, where something is taken, by a restart, or by a decision.
pub data Counted : List State → (moves closings restarts : ℕ) → Type 0 where
  started : Counted (start ∷ []) 0 0 0
  closed : {s : State} {past : List State} {m c r : ℕ} → takens s.branch ≢ [] → Counted (s ∷ past) m c r → Counted (closing s ∷ s ∷ past) (suc m) (suc c) r
  restarted : {s : State} {past : List State} {m c r : ℕ} → Counted (s ∷ past) m c r → Counted (restarting s ∷ s ∷ past) (suc m) c (suc r)
  decided : (w : ℕ) → {s : State} {past : List State} {m c r : ℕ} → Counted (s ∷ past) m c r → Counted (deciding w s ∷ s ∷ past) (suc m) c r

module _ (lists : List ℕ) (book : Meaning) where
  -- At a point: every complete choice that is shut out breaks a rule; closings stay below the number of choices, and moves are bounded by closings.
  pub record Good (s : State) : Type 0 where
    pub sound : (x : List ℕ) → Complete lists x → shut (nogoods s) x ≡ true → Breaks book x
    pub closings : s.closings < combinations lists
    pub moves : s.moves ≤ length lists + (length lists + 3) * s.closings

  pub record Law {v : Verdict} {s : State} (run : Run lists book v s) : Type 0 where
    pub here : Good s
    pub latest : (past : List State) × (history lists book run ≡ s ∷ past)
    pub throughout : AllByRecursion Good (history lists book run)
    pub kept : KeptThroughout (history lists book run)
    -- the history has one state more than moves, and the counts are the numbers of its moves, closings and restarts
    pub one_more : length (history lists book run) ≡ suc s.moves
    pub counted : Counted (history lists book run) s.moves s.closings s.restarts
    pub none_right : v ≡ none → (x : List ℕ) → Plan lists book x → ⊥
    pub plan_right : (x : List ℕ) → v ≡ plan x → Plan lists book x

  -- Every run that came to the state s goes on by the call to the verdict v and the state t: it has this call more and no other, its history has the old one as its past, and the law holds of it.
  abbrev pub Continues : Call → State → Verdict → State → Type 0
  Continues call s v t = (run : Run lists book unsettled s)
      → (next : Run lists book v t) × ((new : List State) × (history lists book next ≡ new ++ history lists book run)) × (calls lists book next ≡ call ∷ calls lists book run) × Law next
