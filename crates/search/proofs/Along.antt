-- How a sitting stands after some of its moves, and how it ends.
use Rattle.std.proofs.Common.{◌≡◌, ℕ, zero, suc, ◌+◌, ◌-◌, ◌*◌, ◌^◌, ◌<◌, ◌≤◌, ◌⊎◌, List, [], ◌∷◌, ◌++◌, length, get_or, take, drop, None, sym, refl, ap, ◌∙◌, subst, inl, inr, one-add, arith}
use lib.Count.{ones, count_trailing_zeros}
use Rattle.std.proofs.lemmas.List.{drop-drop, length-take-le}
use Rattle.rules.specs.Channels.{Has}
use Rattle.std.proofs.lemmas.Bool.{cases_lt}
use Rattle.rules.specs.Meanings.{Meaning, Lawful}
use Rattle.branching.specs.Channels.{Open}
use Rattle.branching.specs.Order.{OrderMeaning, Lawful as LawfulMeaning}
use Rattle.branching.specs.Policy.{PolicyMeaning, LawfulPolicy}
use Rattle.branching.specs.Bits.{trailing_lowest, two_count, none_has}
use Rattle.model.specs.Remains.{family, Dead, Alive, Single}
use Rattle.model.specs.Words.{recorded}
use Rattle.model.specs.Moves.{State}
use Rattle.propagation.specs.declared.records.RuleEnd.{RuleEnd}
use Rattle.propagation.specs.declared.records.Assignment.{Assignment}
use Rattle.propagation.specs.Benches.{Beyond}
use Rattle.laws.specs.Orders.{Order, Policy, Event, asked, channel_asked, told, held_after, behaviour, moved_on, cutoffs}
use Rattle.laws.specs.Sittings.{Search, begun, Verdict, plan, unsettled, Leaves, Turn, close, restart, decide, Sits}
use Rattle.laws.specs.Requests.{sitting_refusal}
use Rattle.laws.specs.Runs.{Found}
use Rattle.laws.proofs.Masks.{has-Has, Has-has}
use Rattle.laws.proofs.Orders.{behaves, cuts_off}
use Rattle.laws.proofs.Refusals.{sitting_stands}
use Rattle.laws.proofs.Runs.{sitting_continues, plans_are_plans}
use Rattle.laws.proofs.Sittings.{open_spends, Onward, onward_more}
use Rattle.search.specs.declared.held.Progress.{Progress}
use Rattle.search.specs.declared.held.OpenSearch.{OpenSearch}
use Rattle.search.specs.declared.held.SettledSearch.{SettledSearch}
use Rattle.search.proofs.Turning.{length_branch_of}
use Rattle.search.specs.Sittings.{Lent, request, Tells, ComesTo, Settles, Planned, Stays}
use Rattle.search.specs.Calls.{asking}
use Rattle.search.specs.declared.regions.Regions.{Regions}
use Rattle.search.specs.Counts.{Counted}
use Rattle.search.specs.Regions.{SameRegions, Sizes}
use Rattle.search.specs.Turns.{state_of, Fit, KeptWords, Moved}

-- The search at a state, with the events and restarts of the call so far.
abbrev pub at : State → List Event → ℕ → Search
at s es k = record { state = s; events = es; restarts = k }

-- What an order and a policy hold after more events and restarts.
held_append : {H : Type 0} (om : OrderMeaning H) (h : H) (es new : List Event) → held_after om (held_after om h es) new ≡ held_after om h (new ++ es)
held_append om h es [] = refl
held_append om h es (asked ms ∷ new) = ap (λ k. om.grouped k ms) (held_append om h es new)
held_append om h es (channel_asked ms g ∷ new) = ap (λ k. om.channeled k ms g) (held_append om h es new)
held_append om h es (told g ∷ new) = ap (λ k. om.heard k g) (held_append om h es new)

moved_append : {Q : Type 0} (pm : PolicyMeaning Q) (q : Q) (k n : ℕ) → moved_on pm (moved_on pm q k) n ≡ moved_on pm q (n + k)
moved_append pm q k zero = let e : 0 + k ≡ k = omega arith in rw e refl
moved_append pm q k (suc n) = let e : suc n + k ≡ suc (n + k) = omega arith in rw e (ap pm.next (moved_append pm q k n))

-- A turn by what is held now is a turn by what was held at the start.
module _ {H Q : Type 0} (lists : List ℕ) (book : Meaning) (om : OrderMeaning H) (pm : PolicyMeaning Q) (room : ℕ) (h : H) (q : Q) where
  shift : (es : List Event) (k : ℕ) (s : State) (next : Search) → Turn lists book (behaviour om (held_after om h es)) (cutoffs pm (moved_on pm q k)) room (begun s) next
      → Turn lists book (behaviour om h) (cutoffs pm q) room (at s es k) (at next.state (next.events ++ es) (next.restarts + k))
  shift es k s next (close masks l d some) =
      let e : k ≡ 0 + k = omega arith in
      subst (λ (j : ℕ). Turn lists book (behaviour om h) (cutoffs pm q) room (at s es k) (at next.state (next.events ++ es) j)) e (close masks l d some)
  shift es k s next (restart masks l a w due) =
      let e : suc k ≡ 1 + k = sym (one-add k) in
      subst (λ (j : ℕ). Turn lists book (behaviour om h) (cutoffs pm q) room (at s es k) (at next.state (next.events ++ es) j)) e (restart masks l a w due)
  shift es k s next (decide masks l a w not_due g c eg ec) =
      let e : k ≡ 0 + k = omega arith in
      subst (λ (j : ℕ). Turn lists book (behaviour om h) (cutoffs pm q) room (at s es k) (at next.state (next.events ++ es) j)) e (decide masks l a w not_due g c eg ec)

-- The counts of a state leave room for so many moves.
pub record Room (left : ℕ) (s : State) : Type 0 where
  pub moves : s.moves + left ≤ 100000000
  pub closings : s.closings ≤ s.moves
  pub restarts : s.restarts ≤ s.moves
  pub since : s.since ≤ s.closings

room_turn : (lists : List ℕ) (book : Meaning) (order : Order) (policy : Policy) (room left : ℕ) (s t : Search) → 0 < left → Turn lists book order policy room s t → Room left s.state → Room (left - 1) t.state
room_turn lists book order policy room left s t l (close masks v d some) r = record { moves = let a = r.moves in omega arith; closings = let a = r.closings in omega arith; restarts = let a = r.restarts in omega arith; since = let a = r.since in omega arith }
room_turn lists book order policy room left s t l (restart masks v a w due) r = record { moves = let a = r.moves in omega arith; closings = let a = r.closings in omega arith; restarts = let a = r.restarts in omega arith; since = omega arith }
room_turn lists book order policy room left s t l (decide masks v a w nd g c eg ec) r = record { moves = let a = r.moves in omega arith; closings = let a = r.closings in omega arith; restarts = let a = r.restarts in omega arith; since = r.since }

pub beyond_then : {n r : ℕ} {a b c d e f : List ℕ} {g h i : List RuleEnd} {j k l : List Assignment} → Beyond n r a b d e g h j k → Beyond n r b c e f h i k l → Beyond n r a c d f g i j l
beyond_then x y = record { domains = y.domains ∙ x.domains; marks = y.marks ∙ x.marks; ends = y.ends ∙ x.ends; settled = y.settled ∙ x.settled }

pub same_then : (a b c : Regions) → SameRegions a b → SameRegions b c → SameRegions a c
same_then a b c x y = record {
  domains = y.domains ∙ x.domains;
  marks = y.marks ∙ x.marks;
  ends = y.ends ∙ x.ends;
  settled = y.settled ∙ x.settled;
  branch = y.branch ∙ x.branch;
  plan = y.plan ∙ x.plan;
  base = y.base ∙ x.base;
  domains_size = y.domains_size ∙ x.domains_size;
  marks_size = y.marks_size ∙ x.marks_size;
  ends_size = y.ends_size ∙ x.ends_size;
  settled_size = y.settled_size ∙ x.settled_size;
  branch_size = y.branch_size ∙ x.branch_size;
  plan_size = y.plan_size ∙ x.plan_size;
  base_size = y.base_size ∙ x.base_size;
}

pub kept_then : (n u v w : ℕ) (a b c d e f : List ℕ) → KeptWords n u v a b d e → KeptWords n v w b c e f → KeptWords n u w a c d f
kept_then n u v w a b c d e f x y =
    let up = x.grown in
    let grown = y.grown in
    let split : v + (w - v) ≡ w = omega arith in
    let from : (xs : List ℕ) → drop w xs ≡ drop (w - v) (drop v xs) = λ xs. ap (λ k. drop k xs) (sym split) ∙ sym (drop-drop (w - v) v xs) in
    record { branch = y.branch ∙ x.branch; grown = omega arith; base = y.base ∙ from e ∙ ap (drop (w - v)) x.base ∙ sym (from d) }

module _ {O P H Q : Type 0} (om : OrderMeaning H) (pm : PolicyMeaning Q) (oh : O → H) (ph : P → Q) (book : Meaning) (lists : List ℕ) (allowance : ℕ) (p₀ : Progress) (found : Lent O P) where
  abbrev pub FromStart : ℕ → Search → Type 0
  FromStart left t = Onward lists book (behaviour om (oh found.order)) (cutoffs pm (ph found.policy)) (length found.base) allowance (begun (state_of p₀ found.branch found.base)) left t

  -- After some moves, with so many left.
  pub record Along (left : ℕ) (p : Progress) (here : Lent O P) : Type 0 where
    pub events : List Event
    pub restarts : ℕ
    pub order : oh here.order ≡ held_after om (oh found.order) events
    pub policy : ph here.policy ≡ moved_on pm (ph found.policy) restarts
    pub onward : FromStart left (at (state_of p here.branch here.base) events restarts)
    pub counted : Counted left p
    pub fit : Fit lists p here.branch here.base
    pub beyond : Beyond (length lists) book.count found.domains here.domains found.marks here.marks found.ends here.ends found.settled here.settled
    pub kept : KeptWords (length lists) p₀.base_used p.base_used found.branch here.branch found.base here.base
    pub plan : here.plan ≡ found.plan
    pub room : length here.base ≡ length found.base

  -- One move more.
  pub along_more : (left : ℕ) (p p' : Progress) (here next : Lent O P) (masks : List ℕ) → Along left p here
      → Moved lists book om pm (length here.base) left masks (oh here.order) (oh next.order) (ph here.policy) (ph next.policy) (state_of p here.branch here.base) (state_of p' next.branch next.base)
      → Fit lists p' next.branch next.base
      → Beyond (length lists) book.count here.domains next.domains here.marks next.marks here.ends next.ends here.settled next.settled
      → KeptWords (length lists) p.base_used p'.base_used here.branch next.branch here.base next.base
      → next.plan ≡ here.plan → length next.base ≡ length here.base → Along (left - 1) p' next
  along_more left p p' here next masks a m fit beyond kept same_plan long =
      let s = state_of p here.branch here.base in
      let h = oh found.order in
      let q = ph found.policy in
      let t = m.next in
      let turn : Turn lists book (behaviour om (held_after om h a.events)) (cutoffs pm (moved_on pm q a.restarts)) (length found.base) (begun s) t =
      subst (λ (r : ℕ). Turn lists book (behaviour om (held_after om h a.events)) (cutoffs pm (moved_on pm q a.restarts)) r (begun s) t) a.room
      (subst (λ (k : Q). Turn lists book (behaviour om (held_after om h a.events)) (cutoffs pm k) (length here.base) (begun s) t) a.policy
      (subst (λ (k : H). Turn lists book (behaviour om k) (cutoffs pm (ph here.policy)) (length here.base) (begun s) t) a.order m.turn)) in
      let moved = shift lists book om pm (length found.base) h q a.events a.restarts s t turn in
      let pos = m.allowed in
      let one : left ≡ suc (left - 1) = omega arith in
      let from : FromStart (suc (left - 1)) (at s a.events a.restarts) = subst (λ (k : ℕ). FromStart k (at s a.events a.restarts)) one a.onward in
      let counts : Room left s = record { moves = a.counted.moves; closings = a.counted.closings; restarts = a.counted.restarts; since = a.counted.since } in
      let counted = subst (Room (left - 1)) (sym m.state) (room_turn lists book (behaviour om h) (cutoffs pm q) (length found.base) left (at s a.events a.restarts) _ pos moved counts) in
      record {
        events = t.events ++ a.events;
        restarts = t.restarts + a.restarts;
        order = m.order ∙ ap (λ k. held_after om k t.events) a.order ∙ held_append om h a.events t.events;
        policy = m.policy ∙ ap (λ k. moved_on pm k t.restarts) a.policy ∙ moved_append pm q a.restarts t.restarts;
        onward = subst (λ (x : State). FromStart (left - 1) (at x (t.events ++ a.events) (t.restarts + a.restarts))) (sym m.state)
            (onward_more lists book (behaviour om h) (cutoffs pm q) (length found.base) allowance (begun (state_of p₀ found.branch found.base)) (left - 1) (at s a.events a.restarts) _ from moved);
        counted = record { moves = counted.moves; closings = counted.closings; restarts = counted.restarts; since = counted.since };
        fit = fit;
        beyond = beyond_then a.beyond beyond;
        kept = kept_then (length lists) p₀.base_used p.base_used p'.base_used found.branch here.branch next.branch found.base here.base next.base a.kept kept;
        plan = same_plan ∙ a.plan;
        room = long ∙ a.room;
      }

-- Where each group keeps one channel, the lowest of each is that channel.
pub single : (lists masks x : List ℕ) → Alive lists (family masks) → ((g : ℕ) → Open masks g → ⊥) → ((g : ℕ) → g < length lists → get_or masks g 0 < 2 ^ 64)
    → ((g : ℕ) → g < length lists → get_or x g 64 ≡ count_trailing_zeros 64 (get_or masks g 0)) → Single lists (family masks) x
single lists masks x alive narrow fits is g l =
    let m = get_or masks g 0 in
    let a = alive g l in
    let pos : 0 < get_or masks g 0 = positive (get_or masks g 0) a.0 (has-Has m a.0 a.1) in
    let t = trailing_lowest 64 m pos (fits g l) in
    let tz = count_trailing_zeros 64 m in
    (rw (is g l) (Has-has m tz t.0), λ c h. (rw (is g l) (same m c tz (has-Has m c h) t.0 (narrow g))))
  where
    positive : (m c : ℕ) → Has m c → 0 < m
    positive zero c h = absurd (none_has c h)
    positive (suc m) c h = omega arith

    same : (m a b : ℕ) → Has m a → Has m b → (2 ≤ ones m → ⊥) → a ≡ b
    same m a b p q f = elim (cases_lt a b) [
      | inl l ↦ absurd (f (two_count a b m l p q))
      | inr l ↦ elim (cases_lt b a) [ inl k ↦ absurd (f (two_count b a m k q p)) | inr k ↦ omega arith ]
    ]

-- An accepted sitting that ends here.
module _ {O P H Q : Type 0} (om : OrderMeaning H) (law : LawfulMeaning om) (pm : PolicyMeaning Q) (plaw : LawfulPolicy pm) (oh : O → H) (ph : P → Q) (book : Meaning) (blaw : Lawful book)
    (s : OpenSearch) (lists : List ℕ) (allowance : ℕ) (found : Lent O P) (accepted : sitting_refusal (request s lists book allowance found) ≡ None) where
  pub comes : (left : ℕ) (p p' : Progress) (here next : Lent O P) (v : Verdict) (a : Along om pm oh ph book lists allowance s.at found left p here)
      → state_of p' next.branch next.base ≡ state_of p here.branch here.base → oh next.order ≡ oh here.order → ph next.policy ≡ ph here.policy
      → Sits lists book (behaviour om (oh found.order)) (cutoffs pm (ph found.policy)) (length found.base) left
      (at (state_of p here.branch here.base) a.events a.restarts) v (at (state_of p here.branch here.base) a.events a.restarts)
      → Leaves lists book (state_of p here.branch here.base) (take (length lists) next.domains)
      ⊎ ((ms : List ℕ) × Leaves lists book (state_of p here.branch here.base) ms × Dead lists (family ms))
      → Fit lists p' next.branch next.base
      → Beyond (length lists) book.count here.domains next.domains here.marks next.marks here.ends next.ends here.settled next.settled
      → KeptWords (length lists) p.base_used p'.base_used here.branch next.branch here.base next.base
      → ComesTo om pm oh ph book s lists allowance found next v p'
  comes left p p' here next v a same so sp sits remain fit beyond kept =
      let end = at (state_of p here.branch here.base) a.events a.restarts in
      let all = a.onward v end sits in
      record {
        accepted = accepted;
        end = end;
        sits = all;
        state = same;
        words = fit.words ∙ ap (λ (x : State). recorded x.base) same;
        used = sym (length-take-le _ _ fit.base_in) ∙ ap length (fit.words ∙ ap (λ (x : State). recorded x.base) same);
        order = so ∙ a.order;
        policy = sp ∙ a.policy;
        remain = remain;
        beyond = beyond_then a.beyond beyond;
        kept = kept_then (length lists) s.at.base_used p.base_used p'.base_used found.branch here.branch next.branch found.base here.base next.base a.kept kept;
        continues = sitting_continues lists book blaw (behaviour om (oh found.order)) (behaves om law (oh found.order)) (cutoffs pm (ph found.policy)) (cuts_off pm plaw (ph found.policy))
            (state_of s.at found.branch found.base) (request s lists book allowance found) (sitting_stands (request s lists book allowance found) s.at.counts.closings s.at.counts.restarts accepted)
            (record { groups = refl; rules = refl }) accepted v end all;
      }

-- A search tells the counts of the state that it stands at.
pub tells : (p : Progress) (branch base : List ℕ) (s : State) → state_of p branch base ≡ s → Tells p.counts s
tells p branch base s e = record { moves = ap (λ (x : State). x.moves) e; closings = ap (λ (x : State). x.closings) e; restarts = ap (λ (x : State). x.restarts) e }

-- What a sitting answers at each of its ends. An open one has made exactly the moves allowed, and "plan" comes with one.
module _ {O P H Q : Type 0} (om : OrderMeaning H) (pm : PolicyMeaning Q) (oh : O → H) (ph : P → Q) (book : Meaning) (s : OpenSearch) (lists : List ℕ) (allowance : ℕ) (found left : Lent O P) where
  abbrev found_order : Order
  found_order = behaviour om (oh found.order)

  abbrev found_policy : Policy
  found_policy = cutoffs pm (ph found.policy)

  abbrev first : Search
  first = begun (state_of s.at found.branch found.base)

  pub settles : (v : Verdict) (d : SettledSearch) → ComesTo om pm oh ph book s lists allowance found left v d.at → Settles om pm oh ph book s lists allowance found left v d
  settles v d r = (r, tells d.at left.branch left.base r.end.state r.state)

  pub planned : Lawful book → book.groups ≡ length lists → (d : SettledSearch) → ComesTo om pm oh ph book s lists allowance found left (plan (take (length lists) left.plan)) d.at
      → drop (length lists) left.plan ≡ drop (length lists) found.plan → Planned om pm oh ph book s lists allowance found left d
  planned lawful same d r behind = record {
    settles = settles (plan (take (length lists) left.plan)) d r;
    is_plan = plans_are_plans lists book lawful same found_order found_policy (length found.base) allowance first (take (length lists) left.plan) r.end r.sits;
    behind = behind;
  }

  pub stays : (t : OpenSearch) (r : ComesTo om pm oh ph book s lists allowance found left unsettled t.at) → t.groups ≡ s.groups → Found lists (request t lists book allowance left) r.end.state
      → left.plan ≡ found.plan → Stays om pm oh ph book s lists allowance found left t
  stays t r groups next plan_kept = record {
    comes = r;
    groups = groups;
    moves = ap (λ (x : State). x.moves) r.state ∙ open_spends lists book found_order found_policy (length found.base) allowance first r.end r.sits;
    tells = tells t.at left.branch left.base r.end.state r.state;
    next = next;
    plan = plan_kept;
  }

-- The next call finds the open search as it is left.
pub found_open : (groups : ℕ) (p : Progress) (lists : List ℕ) (book_groups rules allowance : ℕ) (z : Sizes) (branch base : List ℕ) (s : State) → groups ≡ length lists
    → state_of p branch base ≡ s → take p.base_used base ≡ recorded s.base → p.base_used ≤ length base → Found lists (asking groups p lists book_groups rules allowance z branch base) s
found_open groups p lists book_groups rules allowance z branch base s g e w l = record {
  carried = record {
    groups = g;
    branch_length = sym (length_branch_of branch p.branch_len) ∙ ap (λ (x : State). length x.branch) e;
    base_used = sym (length-take-le p.base_used base l) ∙ ap length w;
    moves = ap (λ (x : State). x.moves) e;
    since = ap (λ (x : State). x.since) e;
  };
  listed = refl;
  branch = ap (λ (x : State). x.branch) e;
  base = w;
}

-- The numbers of an open search are in bounds.
pub held_bounds : (groups left : ℕ) (lists : List ℕ) (p p' : Progress) (branch base branch' base' : List ℕ) → groups ≡ length lists → Counted left p → Fit lists p' branch' base'
    → state_of p' branch' base' ≡ state_of p branch base
    → (p'.branch_len ≤ 64 * groups) × (p'.base_used ≤ 65536) × Counted 0 p'
held_bounds groups left lists p p' branch base branch' base' g c f e =
    let m : p'.counts.moves ≡ p.counts.moves = ap (λ (x : State). x.moves) e in
    let k : p'.counts.closings ≡ p.counts.closings = ap (λ (x : State). x.closings) e in
    let r : p'.counts.restarts ≡ p.counts.restarts = ap (λ (x : State). x.restarts) e in
    let s : p'.since ≡ p.since = ap (λ (x : State). x.since) e in
    let a = c.moves in
    let b = c.closings in
    let d = c.restarts in
    let h = c.since in
    let u = f.base_in in
    let v = f.base_room in
    let w = f.branch_in in
    (omega arith, omega arith, record { moves = omega arith; closings = omega arith; restarts = omega arith; since = omega arith })
