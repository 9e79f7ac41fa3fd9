-- What one turn of a sitting does to the numbers of a search, and to the state that they and the words stand for.
use Rattle.std.specs.Prelude.{◌≡◌, ℕ, ◌+◌, ◌-◌, ◌*◌, ◌<◌, ◌≤◌, ◌≢◌, ◌⊎◌, List, [], length, take, drop, Some, slice_set}
use Rattle.std.specs.List.{AllByRecursion}
use Rattle.rules.specs.Meanings.{Meaning}
use Rattle.branching.specs.Channels.{Open}
use Rattle.branching.specs.Order.{OrderMeaning}
use Rattle.branching.specs.Policy.{PolicyMeaning}
use Rattle.model.specs.Decisions.{takens, reduced, Branch, Nogood}
use Rattle.model.specs.Words.{branch_of, base_of, recorded}
use Rattle.model.specs.Moves.{State, nogoods, closing, restarting, deciding}
use Rattle.model.specs.Remains.{family, Dead, Alive}
use Rattle.propagation.specs.Filtered.{Lives}
use Rattle.laws.specs.Orders.{held_after, behaviour, moved_on, cutoffs}
use Rattle.laws.specs.Sittings.{Search, begun, blamed, Leaves, Going, Turn}
use Rattle.search.specs.declared.held.Progress.{Progress}
use Rattle.search.specs.declared.turns.Step.{Step}
use Rattle.search.specs.declared.turns.Step.TheVariants.{None as EndsNone, Plan, Spent, Made}
use Rattle.search.specs.declared.turns.Move.TheVariants.{Close, Restart, Decide}

-- The state that the numbers of a search and the words of its branch and base stand for.
abbrev pub state_of : Progress → List ℕ → List ℕ → State
state_of p branch base = record {
  branch = branch_of branch p.branch_len;
  base = base_of (take p.base_used base);
  moves = p.counts.moves;
  closings = p.counts.closings;
  restarts = p.counts.restarts;
  since = p.since;
}

-- The numbers after each move.
abbrev pub closed_at : ℕ → Progress → Progress
closed_at last p = record {
  branch_len = last + 1;
  base_used = p.base_used;
  counts = record { moves = p.counts.moves + 1; closings = p.counts.closings + 1; restarts = p.counts.restarts };
  since = p.since + 1;
}

abbrev pub restarted_at : List ℕ → Progress → Progress
restarted_at branch p = record {
  branch_len = 0;
  base_used = p.base_used + length (recorded (reduced (branch_of branch p.branch_len)));
  counts = record { moves = p.counts.moves + 1; closings = p.counts.closings; restarts = p.counts.restarts + 1 };
  since = 0;
}

abbrev pub decided_at : Progress → Progress
decided_at p = record {
  branch_len = p.branch_len + 1;
  base_used = p.base_used;
  counts = record { moves = p.counts.moves + 1; closings = p.counts.closings; restarts = p.counts.restarts };
  since = p.since;
}

-- The order is asked for a group and then for a channel of it, and these are taken: an assignment's word.
pub record Decides {H : Type 0} (om : OrderMeaning H) (h h' : H) (masks : List ℕ) (p p' : Progress) (branch branch' : List ℕ) : Type 0 where
  pub group : ℕ
  pub channel : ℕ
  pub grouped : om.group h masks ≡ Some group
  pub channeled : om.channel (om.grouped h masks) masks group ≡ Some channel
  pub after : h' ≡ om.channeled (om.grouped h masks) masks group
  pub numbers : p' ≡ decided_at p
  pub small : 64 * group + channel < 65536
  pub words : branch' ≡ slice_set branch p.branch_len (64 * group + channel)

-- The numbers and words of a search in order: they fit the regions, the branch and the base are sound.
pub record Fit (lists : List ℕ) (p : Progress) (branch base : List ℕ) : Type 0 where
  pub some : 1 ≤ length lists
  pub few : length lists ≤ 200
  pub branch_in : p.branch_len ≤ 64 * length lists
  pub branch_room : 64 * length lists ≤ length branch
  pub base_in : p.base_used ≤ length base
  pub base_room : length base ≤ 65536
  pub sound : Branch lists (branch_of branch p.branch_len)
  pub nogoods : AllByRecursion (Nogood lists) (base_of (take p.base_used base))
  pub words : take p.base_used base ≡ recorded (base_of (take p.base_used base))

-- The cutoff is reached, and a base of this size has space for the nogoods.
abbrev pub DueAt : {Q : Type 0} → PolicyMeaning Q → Q → ℕ → State → Type 0
DueAt pm q room s = (pm.cutoff q ≤ s.since) × (length (recorded (nogoods s)) ≤ room)

-- A turn in a dead state: nothing is taken, or the moves are used up, or the last decision taken is closed.
abbrev pub DeadTurn : {H : Type 0} → OrderMeaning H → ℕ → H → H → State → State → Step → Type 0
DeadTurn om left h h' s s' EndsNone = (takens s.branch ≡ []) × (s' ≡ s) × (h' ≡ h)
DeadTurn om left h h' s s' Plan = ⊥
DeadTurn om left h h' s s' Spent = (left ≡ 0) × (takens s.branch ≢ []) × (s' ≡ s) × (h' ≡ h)
DeadTurn om left h h' s s' (Made Close) = (0 < left) × (takens s.branch ≢ []) × (s' ≡ closing s) × (h' ≡ om.heard h (blamed s.branch))
DeadTurn om left h h' s s' (Made Restart) = ⊥
DeadTurn om left h h' s s' (Made Decide) = ⊥

-- A turn where every group keeps a channel: none keeps two, or the moves are used up, or a restart is made where it is due, and else a decision.
pub record RestartTurn {H Q : Type 0} (pm : PolicyMeaning Q) (room : ℕ) (h h' : H) (q q' : Q) (s s' : State) : Type 0 where
  pub due : DueAt pm q room s
  pub state : s' ≡ restarting s
  pub order : h' ≡ h
  pub policy : q' ≡ pm.next q

pub record DecideTurn {H Q : Type 0} (om : OrderMeaning H) (pm : PolicyMeaning Q) (room : ℕ) (masks : List ℕ) (h h' : H) (q q' : Q) (s s' : State) : Type 0 where
  pub not_due : DueAt pm q room s → ⊥
  pub group : ℕ
  pub channel : ℕ
  pub grouped : om.group h masks ≡ Some group
  pub channeled : om.channel (om.grouped h masks) masks group ≡ Some channel
  pub state : s' ≡ deciding (64 * group + channel) s
  pub order : h' ≡ om.channeled (om.grouped h masks) masks group
  pub policy : q' ≡ q

abbrev pub AliveTurn : {H Q : Type 0} → OrderMeaning H → PolicyMeaning Q → ℕ → ℕ → List ℕ → H → H → Q → Q → State → State → Step → Type 0
AliveTurn om pm room left masks h h' q q' s s' EndsNone = ⊥
AliveTurn om pm room left masks h h' q q' s s' Plan = ((g : ℕ) → Open masks g → ⊥) × (s' ≡ s) × (h' ≡ h) × (q' ≡ q)
AliveTurn om pm room left masks h h' q q' s s' Spent = (left ≡ 0) × ((g : ℕ) × Open masks g) × (s' ≡ s) × (h' ≡ h) × (q' ≡ q)
AliveTurn om pm room left masks h h' q q' s s' (Made Close) = ⊥
AliveTurn om pm room left masks h h' q q' s s' (Made Restart) = (0 < left) × ((g : ℕ) × Open masks g) × RestartTurn pm room h h' q q' s s'
AliveTurn om pm room left masks h h' q q' s s' (Made Decide) = (0 < left) × ((g : ℕ) × Open masks g) × DecideTurn om pm room masks h h' q q' s s'

-- What a turn leaves as it was in the branch and the base: base words past the used ones, and branch words beyond the size.
pub record KeptWords (groups used used' : ℕ) (ws ws' bs bs' : List ℕ) : Type 0 where
  pub branch : drop (64 * groups) ws' ≡ drop (64 * groups) ws
  pub grown : used ≤ used'
  pub base : drop used' bs' ≡ drop used' bs

-- The domains are what remained before the newest decision.
pub record Fresh (lists : List ℕ) (book : Meaning) (p : Progress) (branch base domains : List ℕ) : Type 0 where
  pub some : 0 < p.branch_len
  pub before : Lives lists book (base_of (take p.base_used base)) (branch_of branch (p.branch_len - 1)) (take (length lists) domains)

module _ {H Q : Type 0} (lists : List ℕ) (book : Meaning) (om : OrderMeaning H) (pm : PolicyMeaning Q) (room left : ℕ) (masks : List ℕ) (h h' : H) (q q' : Q) (s s' : State) where
  -- Nothing has changed.
  pub record Same : Type 0 where
    pub state : s' ≡ s
    pub order : h' ≡ h
    pub policy : q' ≡ q

  -- One move is made, of those allowed.
  pub record Moved : Type 0 where
    pub allowed : 0 < left
    pub next : Search
    pub turn : Turn lists book (behaviour om h) (cutoffs pm q) room (begun s) next
    pub state : s' ≡ next.state
    pub order : h' ≡ held_after om h next.events
    pub policy : q' ≡ moved_on pm q next.restarts

  -- The masks are what remains, unless the state is dead.
  abbrev pub Remaining : Type 0
  Remaining = Leaves lists book s masks ⊎ ((ms : List ℕ) × Leaves lists book s ms × Dead lists (family ms))

  -- What a turn came to.
  abbrev pub Turned : Step → Type 0
  Turned EndsNone = Same × ((ms : List ℕ) × Leaves lists book s ms × Dead lists (family ms)) × (takens s.branch ≡ [])
  Turned Plan = Same × Leaves lists book s masks × Alive lists (family masks) × ((g : ℕ) → Open masks g → ⊥)
  Turned Spent = Same × (left ≡ 0) × Going lists book s × Remaining
  Turned (Made _) = Moved
