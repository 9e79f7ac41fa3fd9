-- Laws of the two orders, in the words of their description. Assumes nothing.
use Rattle.std.specs.Prelude.{◌≡◌, ℕ, ◌+◌, ◌<◌, ◌≤◌, List, [], ◌∷◌, ◌++◌, length, Contains, Some, None, Option, slice_get}
use Rattle.branching.specs.Channels.{Open}
use Rattle.branching.specs.Order.{OrderMeaning}
use Rattle.branching.specs.Fewest.{FewestAnswer, LowestAnswer, fewest_first}
use Rattle.branching.specs.Layer.{Layer, last_conflict, waiting}

-- The group with the fewest channels, from two up and the lowest among equals; and the lowest channel that remains in a group.
pub record FewestFirstLaw : Type 0 where
  pub group : (ms : List ℕ) → FewestAnswer ms (fewest_first.group tt ms)
  pub channel : (ms : List ℕ) (g : ℕ) → LowestAnswer ms g (fewest_first.channel tt ms g)

-- The member g of the set is open, and none that was added before it is.
pub record EarliestOpen (kept ms : List ℕ) (g : ℕ) : Type 0 where
  pub place : ℕ
  pub member : slice_get kept place ≡ Some g
  pub two : Open ms g
  pub earliest : (i h : ℕ) → i < place → slice_get kept i ≡ Some h → Open ms h → ⊥

-- No member of the set is open.
abbrev pub NoneOpen : List ℕ → List ℕ → Type 0
NoneOpen kept ms = (h : ℕ) → Contains kept h → Open ms h → ⊥

-- The candidate, if there is one, is not open.
abbrev pub NotReady : Option ℕ → List ℕ → Type 0
NotReady candidate ms = (g : ℕ) → candidate ≡ Some g → Open ms g → ⊥

module _ {H : Type 0} where
  -- What becomes of the set: it stays, the candidate is added at its end, or it is emptied.
  pub data SetBecomes (s t : Layer H) : Type 0 where
    stays : t.kept ≡ s.kept → SetBecomes s t
    gains : (g : ℕ) → s.candidate ≡ Some g → t.kept ≡ s.kept ++ g ∷ [] → SetBecomes s t
    emptied : t.kept ≡ [] → SetBecomes s t

  -- The group g can become the candidate: there is none, the set has space for one more, and lacks g.
  pub record CanWait (s : Layer H) (g : ℕ) : Type 0 where
    pub none : s.candidate ≡ None
    pub space : length s.kept < s.limit
    pub lacks : Contains s.kept g → ⊥

  -- No more than k groups, the candidate counted.
  abbrev pub AtMostK : Layer H → Type 0
  AtMostK s = length s.kept + waiting s.candidate ≤ s.limit

  -- The holdings that questions and tellings lead to.
  pub data Later (o : OrderMeaning H) (h : H) : H → Type 0 where
    now : Later o h h
    grouped : {i : H} → Later o h i → (ms : List ℕ) → Later o h (o.grouped i ms)
    channeled : {i : H} → Later o h i → (ms : List ℕ) (g : ℕ) → Later o h (o.channeled i ms g)
    told : {i : H} → Later o h i → (g : ℕ) → Later o h (o.heard i g)

  -- Asked for a group it answers a, and then holds t.
  pub record Answers (o : OrderMeaning H) (h : H) (ms : List ℕ) (a : Option ℕ) (t : H) : Type 0 where
    pub group : o.group h ms ≡ a
    pub grouped : o.grouped h ms ≡ t

-- Last conflict over an order o.
pub record LastConflictLaw {H : Type 0} (o : OrderMeaning H) : Type 0 where
  -- An open group of the set, the earliest added, comes before all others. Nothing changes.
  pub set_first : (s : Layer H) (ms : List ℕ) (g : ℕ) → EarliestOpen s.kept ms g → Answers (last_conflict o) s ms (Some g) s
  -- An open candidate is next. It is added to the set, and there is no candidate any more.
  pub candidate_next : (s : Layer H) (ms : List ℕ) (g : ℕ) → NoneOpen s.kept ms → s.candidate ≡ Some g → Open ms g →
      Answers (last_conflict o) s ms (Some g) (record { limit = s.limit; kept = s.kept ++ g ∷ []; candidate = None; below = s.below })
  -- Then the order below is asked. The set is empty, and there is no candidate.
  pub below_last : (s : Layer H) (ms : List ℕ) → NoneOpen s.kept ms → NotReady s.candidate ms →
      Answers (last_conflict o) s ms (o.group s.below ms) (record { limit = s.limit; kept = []; candidate = None; below = o.grouped s.below ms })
  -- A group is added only from the candidate.
  pub added : (s : Layer H) (ms : List ℕ) → SetBecomes s ((last_conflict o).grouped s ms)
  -- Every question for a channel is passed to the order below.
  pub channel : (s : Layer H) (ms : List ℕ) (g : ℕ) → (last_conflict o).channel s ms g ≡ o.channel s.below ms g
  pub channeled : (s : Layer H) (ms : List ℕ) (g : ℕ) → (last_conflict o).channeled s ms g ≡ record { limit = s.limit; kept = s.kept; candidate = s.candidate; below = o.channeled s.below ms g }
  -- A told group becomes the candidate only where there is none, there is space, and the set lacks it. The order below is told in any case.
  pub becomes : (s : Layer H) (g : ℕ) → CanWait s g → (last_conflict o).heard s g ≡ record { limit = s.limit; kept = s.kept; candidate = Some g; below = o.heard s.below g }
  pub passes : (s : Layer H) (g : ℕ) → (CanWait s g → ⊥) → (last_conflict o).heard s g ≡ record { limit = s.limit; kept = s.kept; candidate = s.candidate; below = o.heard s.below g }
  -- What the order below holds changes only by the questions and tellings that are passed to it.
  pub below : (s t : Layer H) → Later (last_conflict o) s t → Later o s.below t.below
  -- The number k never changes, and the groups never come to be more.
  pub limit : (s t : Layer H) → Later (last_conflict o) s t → t.limit ≡ s.limit
  pub within : (s t : Layer H) → Later (last_conflict o) s t → AtMostK s → AtMostK t
