-- Small jobs with gap rules, worked through.
use Rattle.std.specs.Prelude.{◌≡◌, ℕ, ◌<◌, true, false, List, [], ◌∷◌, length, None}
use Rattle.branching.specs.Fewest.{fewest_first}
use Rattle.branching.specs.Layer.{last_conflict}
use Rattle.branching.specs.Policy.{geometric, steady}
use Rattle.rules.specs.Gaps.{gaps}
use Rattle.rules.specs.declared.gap.GapEntry.{GapEntry}
use Rattle.model.specs.Words.{recorded}
use Rattle.model.specs.Moves.{State, start}
use Rattle.model.specs.Statements.{ReducedExample}
use Rattle.laws.specs.Orders.{Order, behaviour, Policy, cutoffs}
use Rattle.laws.specs.Runs.{Run, opening, sitting, restart, refused_sitting, refused_restart, calls}
use Rattle.laws.specs.Sittings.{Search, begun, Verdict, none, plan, Leaves, Sits}

-- A rule by its two groups and the gap that their channels keep.
abbrev pub gap_rule : ℕ → ℕ → ℕ → GapEntry
gap_rule g h d = record { first = g; second = h; gap = d }

abbrev pub fewest : Order
fewest = behaviour fewest_first tt

-- Last conflict with k 1 over fewest first, holding nothing.
abbrev pub last_conflict_order : Order
last_conflict_order = behaviour (last_conflict fewest_first) (record { limit = 1; kept = []; candidate = None; below = tt })

-- A sitting of 10,000 moves on a search just opened comes to the verdict, with these counts and base words.
abbrev pub WorkedBy : Order → List ℕ → List GapEntry → Policy → ℕ → Verdict → ℕ → ℕ → ℕ → List ℕ → Type 0
WorkedBy order lists rules policy room v moves closings restarts words =
    (t : Search) × Sits lists (gaps (length lists) rules) order policy room 10000 (begun start) v t
    × (t.state.moves ≡ moves) × (t.state.closings ≡ closings) × (t.state.restarts ≡ restarts) × (recorded t.state.base ≡ words)

abbrev pub Worked : List ℕ → List GapEntry → Policy → ℕ → Verdict → ℕ → ℕ → ℕ → List ℕ → Type 0
Worked = WorkedBy fewest

-- Three groups {0,1}, each two with gap 1.
abbrev pub Clash : Order → Type 0
Clash order = WorkedBy order (3 ∷ 3 ∷ 3 ∷ []) (gap_rule 0 1 1 ∷ gap_rule 0 2 1 ∷ gap_rule 1 2 1 ∷ []) (cutoffs geometric 10) 4096 none 2 1 0 []

-- The same after two free groups {0,1}: fewest first closes 7 times, last conflict 5 times.
abbrev pub ClashLater : Order → ℕ → ℕ → Type 0
ClashLater order moves closings = WorkedBy order (3 ∷ 3 ∷ 3 ∷ 3 ∷ 3 ∷ []) (gap_rule 2 3 1 ∷ gap_rule 2 4 1 ∷ gap_rule 3 4 1 ∷ []) (cutoffs geometric 10) 4096 none moves closings 0 []

-- {0,5}, {1,2}, {1,2} with gaps 2 for 0-1 and 0-2 and 1 for 1-2.
abbrev pub Three : Policy → ℕ → ℕ → ℕ → List ℕ → Type 0
Three policy room moves restarts words = Worked (33 ∷ 6 ∷ 6 ∷ []) (gap_rule 0 1 2 ∷ gap_rule 0 2 2 ∷ gap_rule 1 2 1 ∷ []) policy room (plan (5 ∷ 1 ∷ 2 ∷ [])) moves 1 restarts words

-- Geometric; steady 1, with a restart; and with a base of one word, where it has no space.
abbrev pub Jobs : Type 0
Jobs = Clash fewest × Clash last_conflict_order × ClashLater fewest 14 7 × ClashLater last_conflict_order 10 5
    × Three (cutoffs geometric 10) 4096 3 0 [] × Three (cutoffs steady 1) 4096 4 1 (1 ∷ 0 ∷ []) × Three (cutoffs steady 1) 1 3 0 []
    -- The nogoods of a branch, and their words.
    × ReducedExample
    -- {0,1}, {0,1} with gap 2: dead at once.
    × Worked (3 ∷ 3 ∷ []) (gap_rule 0 1 2 ∷ []) (cutoffs geometric 10) 4096 none 0 0 0 []
    -- Gap 63 permits 0 and 63, and not 0 and 62; gap 0 permits equals, of every channel.
    × ((gaps 2 (gap_rule 0 1 63 ∷ [])).permits 0 0 63 ≡ true) × ((gaps 2 (gap_rule 0 1 63 ∷ [])).permits 0 0 62 ≡ false)
    × ((c : ℕ) → c < 64 → (gaps 2 (gap_rule 0 1 0 ∷ [])).permits 0 c c ≡ true)
    -- The nogood of channel 0 in groups 0 and 1, with lists {0} and {0,1}: group 1 keeps {1}.
    × Leaves (1 ∷ 3 ∷ []) (gaps 2 []) (record { branch = []; base = (0 ∷ 64 ∷ []) ∷ []; moves = 0; closings = 0; restarts = 0; since = 0 }) (1 ∷ 2 ∷ [])

-- A run of seven calls on {0,5}, {1,2}, {1,2} with the same gaps: an opening, two sittings of one move, a restart, one more that is refused with 14, a sitting that is refused with 11 for its allowance of 0, and a sitting that comes to the plan.
abbrev pub SevenCalls : Type 0
SevenCalls = (t : State) × (run : Run (33 ∷ 6 ∷ 6 ∷ []) (gaps 3 (gap_rule 0 1 2 ∷ gap_rule 0 2 2 ∷ gap_rule 1 2 1 ∷ [])) (plan (5 ∷ 1 ∷ 2 ∷ [])) t)
    × (calls (33 ∷ 6 ∷ 6 ∷ []) (gaps 3 (gap_rule 0 1 2 ∷ gap_rule 0 2 2 ∷ gap_rule 1 2 1 ∷ [])) run
    ≡ sitting fewest (cutoffs geometric 10) 4 100 ∷ refused_sitting 11 0 ∷ refused_restart 14 0 ∷ restart
    ∷ sitting fewest (cutoffs geometric 10) 4 1 ∷ sitting fewest (cutoffs geometric 10) 4 1 ∷ opening ∷ [])
    × (t.moves ≡ 4) × (t.closings ≡ 1) × (t.restarts ≡ 1) × (recorded t.base ≡ 1 ∷ 0 ∷ [])
