-- The laws of runs, for every run from the start, and of states.
use Rattle.std.specs.Prelude.{◌≡◌, ℕ, ◌+◌, ◌*◌, ◌<◌, ◌≤◌, true, ◌||◌, List, [], ◌∷◌, length}
use Rattle.std.specs.List.{AllByRecursion}
use Rattle.rules.specs.Meanings.{Meaning, Lawful}
use Rattle.model.specs.Decisions.{Decision, taken, refused, reduced, Branch, Nogood}
use Rattle.model.specs.Words.{branch_of, recorded, base_of}
use Rattle.rules.specs.Plans.{Complete, Breaks, Plan}
use Rattle.model.specs.Choices.{shut, combinations}
use Rattle.model.specs.Remains.{Family, Meets, Remains, Single}
use Rattle.model.specs.Moves.{State, start, nogoods, Left, Reach, EndedNone}

-- What a statement on runs is over: a book for the lists' groups, a room for the base, and a state that a run comes to.
abbrev pub OnRuns : (List ℕ → Meaning → ℕ → State → Type 0) → Type 0
OnRuns P = (lists : List ℕ) (book : Meaning) (room : ℕ) → Lawful book → book.groups ≡ length lists
    → (s : State) → Reach lists book room start s → P lists book room s

-- The branch has listed assignments, none twice and none of a group taken before; the base has nogoods.
abbrev pub Formed : Type 0
Formed = OnRuns (λ lists book room s. Branch lists s.branch × AllByRecursion (Nogood lists) s.base)

-- So the branch has at most 64 decisions a group.
abbrev pub BranchBounded : Type 0
BranchBounded = OnRuns (λ lists book room s. length s.branch ≤ 64 * length lists)

-- Every complete choice that is shut out breaks a rule.
abbrev pub Sound : Type 0
Sound = OnRuns (λ lists book room s. (x : List ℕ) → Complete lists x → shut (nogoods s) x ≡ true → Breaks book x)

-- "none" is answered only where there is no plan.
abbrev pub NoneSound : Type 0
NoneSound = OnRuns (λ lists book room s. EndedNone lists book s → (x : List ℕ) → Plan lists book x → ⊥)

-- Where every group keeps one channel, these are a plan. It is so in any state, whether a run comes to it or not.
abbrev pub PlanSound : Type 0
PlanSound = (lists : List ℕ) (book : Meaning) → Lawful book → book.groups ≡ length lists
    → (s : State) (k : Family) → Left lists book s k → (x : List ℕ) → length x ≡ length lists → Single lists k x → Plan lists book x

-- What is shut out stays shut out.
abbrev pub StaysShut : Type 0
StaysShut = OnRuns (λ lists book room s. (t : State) → Reach lists book room s t → (x : List ℕ) → shut (nogoods s) x ≡ true → shut (nogoods t) x ≡ true)

-- Closings stay below the number of choices.
abbrev pub ClosingsBounded : Type 0
ClosingsBounded = OnRuns (λ lists book room s. s.closings < combinations lists)

-- Moves are bounded by closings.
abbrev pub MovesBounded : Type 0
MovesBounded = OnRuns (λ lists book room s. s.moves ≤ length lists + (length lists + 3) * s.closings)

-- The refusals of the branch -a +b -c +d -e give the nogoods {a}, {b, c} and {b, d, e}, which take nine words; and the words of a branch stand for such decisions.
abbrev pub ReducedExample : Type 0
ReducedExample =
    ((a b c d e : ℕ) → let ns = reduced (refused e ∷ taken d ∷ refused c ∷ taken b ∷ refused a ∷ []) in
    (ns ≡ (a ∷ []) ∷ (b ∷ c ∷ []) ∷ (b ∷ d ∷ e ∷ []) ∷ []) × (recorded ns ≡ 1 ∷ a ∷ 2 ∷ b ∷ c ∷ 3 ∷ b ∷ d ∷ e ∷ []))
    × (branch_of (65536 ∷ 64 ∷ 65664 ∷ 192 ∷ 65792 ∷ []) 5 ≡ refused 256 ∷ taken 192 ∷ refused 128 ∷ taken 64 ∷ refused 0 ∷ [])

-- What remains is one family.
abbrev pub RemainsOne : Type 0
RemainsOne = (lists : List ℕ) (book : Meaning) (s : State) (k l : Family) → Left lists book s k → Left lists book s l → (g c : ℕ) → k g c ≡ l g c

-- The words of recorded nogoods are read as these nogoods.
abbrev pub BaseRead : Type 0
BaseRead = (ns : List (List ℕ)) → base_of (recorded ns) ≡ ns

-- There is a family that remains, for all lists and every lawful book.
abbrev pub RemainsExists : Type 0
RemainsExists = (lists : List ℕ) (book : Meaning) → Lawful book → (base : List (List ℕ)) (branch : List Decision) → (k : Family) × Remains lists book base branch k

-- The conditions are closed under union, so the family that remains is the union of all that meet them.
abbrev pub MeetsUnion : Type 0
MeetsUnion = (lists : List ℕ) (book : Meaning) (base : List (List ℕ)) (branch : List Decision) (k l : Family)
    → Meets lists book base branch k → Meets lists book base branch l → Meets lists book base branch (λ g c. k g c || l g c)
