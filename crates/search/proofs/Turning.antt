-- What a turn does to the numbers and the words is a turn of the search that they stand for.
use Rattle.std.proofs.Common.{◌≡◌, ℕ, zero, suc, ◌+◌, ◌*◌, ◌<◌, ◌≤◌, List, ◌∷◌, length, get_or, sym, refl, ap, ◌∙◌, subst, inl, inr, arith}
use Rattle.std.specs.List.{AllByRecursion}
use Rattle.std.proofs.ByRecursion.{All-append}
use Rattle.rules.specs.Meanings.{Meaning, Lawful}
use Rattle.branching.specs.Channels.{Open}
use Rattle.branching.specs.Order.{OrderMeaning, Lawful as LawfulMeaning}
use Rattle.branching.specs.Policy.{PolicyMeaning, LawfulPolicy}
use Rattle.branching.specs.Bits.{counts_two, below_pow}
use Rattle.model.specs.Masks.{grp, chan}
use Rattle.model.specs.Decisions.{taken, reduced, Nogood}
use Rattle.model.specs.Words.{branch_of}
use Rattle.model.specs.Remains.{family, Dead, Alive}
use Rattle.model.specs.Moves.{State, nogoods}
use Rattle.model.proofs.Formed.{Whole, whole_move, free, reduced_nogoods}
use Rattle.model.proofs.Marked.{branch_few}
use Rattle.model.proofs.Remains.{remains_one}
use Rattle.propagation.specs.Bases.{Grouped}
use Rattle.propagation.specs.Filtered.{Lives, Dies}
use Rattle.laws.specs.Orders.{behaviour, cutoffs}
use Rattle.laws.specs.Sittings.{begun, Leaves, dead, wide, close, restart, decide, after_close, after_restart, after_decide}
use Rattle.laws.proofs.Orders.{behaves, cuts_off}
use Rattle.laws.proofs.Masks.{Has-has}
use Rattle.laws.proofs.Filter.{remaining, remaining_leaves}
use Rattle.laws.proofs.Total.{two_wide}
use Rattle.laws.proofs.Sittings.{turn_move}
use Rattle.search.specs.declared.held.Progress.{Progress}
use Rattle.search.specs.declared.turns.Step.{Step}
use Rattle.search.specs.declared.turns.Step.TheVariants.{None as EndsNone, Plan, Spent, Made}
use Rattle.search.specs.declared.turns.Move.TheVariants.{Close, Restart, Decide}
use Rattle.search.proofs.Fronts.{small_base}
use Rattle.search.specs.Turns.{state_of, Fit, DeadTurn, AliveTurn, Moved, Turned}

pub length_branch_of : (ws : List ℕ) (n : ℕ) → length (branch_of ws n) ≡ n
length_branch_of ws zero = refl
length_branch_of ws (suc n) = ap suc (length_branch_of ws n)

-- Where the largest family leaves a group nothing, so do the masks that remain.
pub dead_masks : (lists : List ℕ) (book : Meaning) → Lawful book → (s : State) → Dies lists book s.base s.branch → (ms : List ℕ) × Leaves lists book s ms × Dead lists (family ms)
dead_masks lists book law s d =
    let ms = remaining lists book s in
    let l = remaining_leaves lists book law s in
    (ms, l, (d.2.0, d.2.1, λ c. sym (remains_one lists book s d.0 (family ms) d.1 l.remain d.2.0 c) ∙ d.2.2 c))

pub live_masks : (lists : List ℕ) (book : Meaning) (s : State) (ms : List ℕ) → length ms ≡ length lists → Lives lists book s.base s.branch ms → Leaves lists book s ms
live_masks lists book s ms e l = record { size = e; remain = l.remains }

-- A group that keeps two channels leaves room for a decision.
pub spare : (lists : List ℕ) (book : Meaning) (s : State) (ms : List ℕ) → Leaves lists book s ms → Whole lists s → (g : ℕ) → Open ms g → length s.branch < 64 * length lists
spare lists book s ms l w g o =
    let m = get_or ms g 0 in
    let t = counts_two m m (below_pow m) o in
    let a = t.0 in
    let b = t.1 in
    let ka = Has-has m a t.3 in
    let kb = Has-has m b t.4 in
    let small = (l.remain.meets.within g a ka).channel in
    let v = 64 * g + a in
    let gr : grp (64 * g + a) ≡ g = omega arith in
    let ch : chan (64 * g + a) ≡ a = omega arith in
    let f = free (family ms) v b (rw (gr, ch) ka) (rw gr kb) (λ e. absurd (omega (arith, t.2, e, ch))) s.branch l.remain.meets.decided in
    let n = branch_few lists (taken v ∷ s.branch) (rw (gr, ch) (l.remain.meets.within g a ka), f, w.branch) in
    omega arith

module _ {H Q : Type 0} (lists : List ℕ) (book : Meaning) (om : OrderMeaning H) (pm : PolicyMeaning Q) (room left : ℕ) (masks : List ℕ) (h h' : H) (q q' : Q) (s s' : State) where
  pub turned_dead : (r : Step) → DeadTurn om left h h' s s' r → (ms : List ℕ) × Leaves lists book s ms × Dead lists (family ms) → q' ≡ q → Turned lists book om pm room left masks h h' q q' s s' r
  turned_dead EndsNone t d e = (record { state = t.1; order = t.2; policy = e }, d, t.0)
  turned_dead Plan t d e = absurd t
  turned_dead Spent t d e = (record { state = t.2; order = t.3; policy = e }, t.0, dead d.0 d.1 d.2 t.1, inr d)
  turned_dead (Made Close) t d e = record { allowed = t.0; next = after_close (begun s); turn = close d.0 d.1 d.2 t.1; state = t.2; order = t.3; policy = e }
  turned_dead (Made Restart) t d e = absurd t
  turned_dead (Made Decide) t d e = absurd t

  pub turned_alive : (r : Step) → AliveTurn om pm room left masks h h' q q' s s' r → Leaves lists book s masks → Alive lists (family masks) → Turned lists book om pm room left masks h h' q q' s s' r
  turned_alive EndsNone t l a = absurd t
  turned_alive Plan t l a = (record { state = t.1; order = t.2; policy = t.3 }, l, a, t.0)
  turned_alive Spent t l a = (record { state = t.2; order = t.3; policy = t.4 }, t.0, wide masks l a (two_wide lists book s masks l t.1.0 t.1.1), inl l)
  turned_alive (Made Close) t l a = absurd t
  turned_alive (Made Restart) t l a =
      let r = t.2 in
      record { allowed = t.0; next = after_restart (begun s); turn = restart masks l a (two_wide lists book s masks l t.1.0 t.1.1) r.due; state = r.state; order = r.order; policy = r.policy }
  turned_alive (Made Decide) t l a =
      let r = t.2 in
      record {
        allowed = t.0;
        next = after_decide masks r.group r.channel (begun s);
        turn = decide masks l a (two_wide lists book s masks l t.1.0 t.1.1) r.not_due r.group r.channel r.grouped r.channeled;
        state = r.state;
        order = r.order;
        policy = r.policy;
      }

  -- A turn keeps the branch and the base sound.
  module _ (few : length lists ≤ 200) (law : LawfulMeaning om) (plaw : LawfulPolicy pm) where
    moved_whole : Moved lists book om pm room left masks h h' q q' s s' → Whole lists s → Whole lists s'
    moved_whole m w = subst (Whole lists) (sym m.state)
        (whole_move lists book room s m.next.state (turn_move lists book (behaviour om h) (cutoffs pm q) room few (behaves om law h) (cuts_off pm plaw q) (begun s) m.next m.turn) w)

    pub turned_whole : (r : Step) → Turned lists book om pm room left masks h h' q q' s s' r → Whole lists s → Whole lists s'
    turned_whole EndsNone t w = subst (Whole lists) (sym t.0.state) w
    turned_whole Plan t w = subst (Whole lists) (sym t.0.state) w
    turned_whole Spent t w = subst (Whole lists) (sym t.0.state) w
    turned_whole (Made _) t w = moved_whole t w

-- The nogoods of a sound state, and those of its branch, have groups below 200.
pub small_nogoods : (lists : List ℕ) (s : State) → length lists ≤ 200 → Whole lists s → AllByRecursion (Grouped 200) (nogoods s)
small_nogoods lists s l w = small_base lists (nogoods s) l (All-append (Nogood lists) s.base (reduced s.branch) w.base (reduced_nogoods lists s.branch w.branch))

pub fit_whole : (lists : List ℕ) (p : Progress) (branch base : List ℕ) → Fit lists p branch base → Whole lists (state_of p branch base)
fit_whole lists p branch base f = record { branch = f.sound; base = f.nogoods }
