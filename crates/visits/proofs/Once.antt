-- The visits of a list come to one end.
use Rattle.std.proofs.Common.{◌≡◌, ℕ, ◌+◌, ◌*◌, ◌&&◌, ◌==◌, nat_le, nat_lt, List, [], ◌∷◌, length, take, Some, None, sym, refl, ap, ◌∙◌, subst, arith}
use Rattle.rules.specs.Meanings.{Meaning}
use Rattle.branching.specs.Order.{OrderMeaning}
use Rattle.branching.specs.Policy.{PolicyMeaning}
use Rattle.model.specs.Decisions.{Decision, reduced}
use Rattle.model.specs.Words.{branch_of, recorded}
use Rattle.model.specs.Moves.{State}
use Rattle.laws.specs.Orders.{held_after, moved_on}
use Rattle.laws.specs.Sittings.{Search, begun, Verdict}
use Rattle.laws.specs.Requests.{Request, Refusal, unless, first_of, empty_from, sitting_refusal, restart_refusal}
use Rattle.laws.specs.Words.{branch?, base?}
use Rattle.laws.specs.Runs.{Call}
use Rattle.laws.proofs.Once.{sits_once}
use Rattle.search.specs.Regions.{Sizes}
use Rattle.visits.specs.declared.Visit.{Visit}
use Rattle.visits.specs.declared.Visit.TheVariants.{Sitting, Restart}
use Rattle.visits.specs.Visits.{Asked, Makes, sits, restarts, sitting_refused, restart_refused, Made, none_left, settles, goes_on, Alike, AllAlike, MadeOnce}

-- The checks of a sitting, by all that they look at: a request's words are looked at only as a branch and as used words of a base.
sitting_by : (lists : List ℕ) (book_groups rules groups reach used moves allowance : ℕ) (z : Sizes) (branch_size room : ℕ) (branch : List Decision) (base : List ℕ) → Refusal
sitting_by lists bg br g bl bu mv al z bs room ds ws = first_of (
    unless ((nat_le 1 (length lists) && nat_le (length lists) 200) && ((bg == length lists && nat_le br 4096) && (g == length lists))) 9
    ∷ empty_from 0 lists
    ∷ unless ((nat_le bu room && nat_le room 65536) && (nat_le (64 * g) bs && ((nat_le g z.domains && nat_le 256 z.marks) && ((nat_le (2 * br) z.ends && nat_le g z.settled) && nat_le g z.plan)))) 10
    ∷ unless (nat_le 1 al && nat_le al 1000000) 11
    ∷ unless (nat_le (mv + al) 100000000) 12
    ∷ unless (branch? lists ds) 13
    ∷ unless (base? lists ws) 16
    ∷ unless (nat_lt bl (64 * g)) 20
    ∷ [])

abbrev sizes_of : Request → Sizes
sizes_of q = record { domains = q.domains_size; marks = q.marks_size; ends = q.rule_places; settled = q.group_places; plan = q.plan_size }

sitting_is : (q : Request) → sitting_refusal q ≡ sitting_by q.lists q.book_groups q.book_rules q.groups q.branch_length q.base_used q.moves q.allowance (sizes_of q) (length q.branch) (length q.base) (branch_of q.branch q.branch_length) (take q.base_used q.base)
unfolding sitting_by
sitting_is q = refl

sitting_same : (l l' : List ℕ) (a a' b b' c c' d d' e e' f f' g g' : ℕ) (z z' : Sizes) (h h' i i' : ℕ) (ds ds' : List Decision) (ws ws' : List ℕ)
    → l ≡ l' → a ≡ a' → b ≡ b' → c ≡ c' → d ≡ d' → e ≡ e' → f ≡ f' → g ≡ g' → z ≡ z' → h ≡ h' → i ≡ i' → ds ≡ ds' → ws ≡ ws' → sitting_by l a b c d e f g z h i ds ws ≡ sitting_by l' a' b' c' d' e' f' g' z' h' i' ds' ws'
sitting_same l l' a a' b b' c c' d d' e e' f f' g g' z z' h h' i i' ds ds' ws ws' el ea eb ec ed ee ef eg ez eh ei eds ews = rw (el, ea, eb, ec, ed, ee, ef, eg, ez, eh, ei, eds, ews) refl

-- The same for a restart.
restart_by : (lists : List ℕ) (groups used moves since branch_size room : ℕ) (branch : List Decision) (base : List ℕ) → Refusal
restart_by lists g bu mv since bs room ds ws = first_of (
    unless ((nat_le 1 (length lists) && nat_le (length lists) 200) && (g == length lists)) 9
    ∷ empty_from 0 lists
    ∷ unless ((nat_le bu room && nat_le room 65536) && nat_le (64 * g) bs) 10
    ∷ unless (nat_le (mv + 1) 100000000) 12
    ∷ unless (branch? lists ds) 13
    ∷ unless (base? lists ws) 16
    ∷ unless (nat_le 1 since) 14
    ∷ unless (nat_le (bu + length (recorded (reduced ds))) room) 15
    ∷ [])

restart_is : (q : Request) → restart_refusal q ≡ restart_by q.lists q.groups q.base_used q.moves q.since (length q.branch) (length q.base) (branch_of q.branch q.branch_length) (take q.base_used q.base)
unfolding restart_by
restart_is q = refl

restart_same : (l l' : List ℕ) (a a' b b' c c' d d' e e' f f' : ℕ) (ds ds' : List Decision) (ws ws' : List ℕ)
    → l ≡ l' → a ≡ a' → b ≡ b' → c ≡ c' → d ≡ d' → e ≡ e' → f ≡ f' → ds ≡ ds' → ws ≡ ws' → restart_by l a b c d e f ds ws ≡ restart_by l' a' b' c' d' e' f' ds' ws'
restart_same l l' a a' b b' c c' d d' e e' f f' ds ds' ws ws' el ea eb ec ed ee ef eds ews = rw (el, ea, eb, ec, ed, ee, ef, eds, ews) refl

clash : (number place : ℕ) → ◌≡◌ {A = Refusal} None (Some (number, place)) → ⊥
clash number place e = let z : ◌≡◌ {A = ℕ} 0 1 = cc in omega arith

same_refusal : (n n' p p' : ℕ) → ◌≡◌ {A = Refusal} (Some (n, p)) (Some (n', p')) → (n ≡ n') × (p ≡ p')
same_refusal n n' p p' e = let f : (n, p) ≡ (n', p') = cc in (ap (λ (x : ℕ × ℕ). x.0) f, ap (λ (x : ℕ × ℕ). x.1) f)

module _ (lists : List ℕ) (book : Meaning) (z : Sizes) (branch_size room : ℕ) where
  -- What is asked of the same search decides which refusal is due.
  sitting_due : (s : State) (q q' : Request) → Asked lists book z branch_size room s q → Asked lists book z branch_size room s q' → q.allowance ≡ q'.allowance → sitting_refusal q ≡ sitting_refusal q'
  sitting_due s q q' a b e =
      sitting_is q
      ∙ sitting_same _ _ _ _ _ _ _ _ _ _ _ _ _ _ _ _ _ _ _ _ _ _ _ _ _ _
      (a.found.listed ∙ sym b.found.listed) (a.same_book.groups ∙ sym b.same_book.groups) (a.same_book.rules ∙ sym b.same_book.rules)
      (a.found.carried.groups ∙ sym b.found.carried.groups) (a.found.carried.branch_length ∙ sym b.found.carried.branch_length) (a.found.carried.base_used ∙ sym b.found.carried.base_used)
      (a.found.carried.moves ∙ sym b.found.carried.moves) e (a.sizes ∙ sym b.sizes) (a.branch ∙ sym b.branch) (a.base ∙ sym b.base) (a.found.branch ∙ sym b.found.branch) (a.found.base ∙ sym b.found.base)
      ∙ sym (sitting_is q')

  restart_due : (s : State) (q q' : Request) → Asked lists book z branch_size room s q → Asked lists book z branch_size room s q' → restart_refusal q ≡ restart_refusal q'
  restart_due s q q' a b =
      restart_is q
      ∙ restart_same _ _ _ _ _ _ _ _ _ _ _ _ _ _ _ _ _ _
      (a.found.listed ∙ sym b.found.listed) (a.found.carried.groups ∙ sym b.found.carried.groups) (a.found.carried.base_used ∙ sym b.found.carried.base_used)
      (a.found.carried.moves ∙ sym b.found.carried.moves) (a.found.carried.since ∙ sym b.found.carried.since) (a.branch ∙ sym b.branch) (a.base ∙ sym b.base) (a.found.branch ∙ sym b.found.branch)
      (a.found.base ∙ sym b.found.base)
      ∙ sym (restart_is q')

  module _ {O P H Q : Type 0} (om : OrderMeaning H) (pm : PolicyMeaning Q) (oh : O → H) (ph : P → Q) where
    abbrev One : Visit O P → Visit O P → Call → Call → Verdict → Verdict → State → State → Type 0
    One w w' c d u v s t = Alike oh ph w w' × (c ≡ d) × (u ≡ v) × (s ≡ t)

    makes_once : (s : State) (w x y : Visit O P) (c d : Call) (u v : Verdict) (t r : State) → Makes lists book z branch_size room om pm oh ph s w x c u t → Makes lists book z branch_size room om pm oh ph s w y d v r
        → One x y c d u v t r
    makes_once s w x y c d u v t r (sits {o = h} {p = k} q a n e m o p) (sits q' a' n' e' m' o' p') =
        let one = sits_once lists book _ _ room _ (begun s) _ _ _ _ m m' in (
          (o ∙ (ap (λ (j : Search). held_after om (oh h) j.events) one.1 ∙ sym o'), p ∙ (ap (λ (j : Search). moved_on pm (ph k) j.restarts) one.1 ∙ sym p'), refl),
          refl,
          one.0,
          ap (λ (j : Search). j.state) one.1,
        )
    makes_once s w x y c d u v t r (sits q a n e m o p) (sitting_refused q' a' n' number place e') = absurd (clash _ _ (sym e ∙ (sitting_due s q q' a a' (n ∙ sym n') ∙ e')))
    makes_once s w x y c d u v t r (sitting_refused q a n number place e) (sits q' a' n' e' m' o' p') = absurd (clash _ _ (sym e' ∙ (sitting_due s q' q a' a (n' ∙ sym n) ∙ e)))
    makes_once s w x y c d u v t r (sitting_refused q a n number place e) (sitting_refused q' a' n' number' place' e') =
        let one = same_refusal number number' place place' (sym e ∙ (sitting_due s q q' a a' (n ∙ sym n') ∙ e')) in
        ((refl, refl, refl), rw (one.0, one.1) refl, refl, refl)
    makes_once s w x y c d u v t r (restarts q a e p) (restarts q' a' e' p') = (p ∙ sym p', refl, refl, refl)
    makes_once s w x y c d u v t r (restarts q a e p) (restart_refused q' a' number place e') = absurd (clash _ _ (sym e ∙ (restart_due s q q' a a' ∙ e')))
    makes_once s w x y c d u v t r (restart_refused q a number place e) (restarts q' a' e' p') = absurd (clash _ _ (sym e' ∙ (restart_due s q' q a' a ∙ e)))
    makes_once s w x y c d u v t r (restart_refused q a number place e) (restart_refused q' a' number' place' e') =
        let one = same_refusal number number' place place' (sym e ∙ (restart_due s q q' a a' ∙ e')) in
        (refl, rw (one.0, one.1) refl, refl, refl)

    alike_self : (w : Visit O P) → Alike oh ph w w
    alike_self (Sitting a) = (refl, refl, refl)
    alike_self (Restart p) = refl

    all_alike_self : (ws : List (Visit O P)) → AllAlike oh ph ws ws
    all_alike_self [] = tt
    all_alike_self (w ∷ ws) = (alike_self w, all_alike_self ws)

    made_once : (s : State) (ws us xs : List (Visit O P)) (cs ds : List Call) (v w : Verdict) (t u : State) → Made lists book z branch_size room om pm oh ph s ws us cs v t → Made lists book z branch_size room om pm oh ph s ws xs ds w u
        → AllAlike oh ph us xs × (cs ≡ ds) × (v ≡ w) × (t ≡ u)
    made_once s ws us xs cs ds v w t u none_left none_left = (tt, refl, refl, refl)
    made_once s ws us xs cs ds v w t u (settles {ws = rest} m closed) (settles m' closed') =
        let one = makes_once s _ _ _ _ _ _ _ _ _ m m' in
        ((one.0, all_alike_self rest), ap (λ (c : Call). c ∷ []) one.1, one.2, one.3)
    made_once s ws us xs cs ds v w t u (settles m closed) (goes_on m' later) = absurd (closed (makes_once s _ _ _ _ _ _ _ _ _ m m').2)
    made_once s ws us xs cs ds v w t u (goes_on m later) (settles m' closed) = absurd (closed (sym (makes_once s _ _ _ _ _ _ _ _ _ m m').2))
    made_once s ws us xs cs ds v w t u (goes_on {t = r} {ws = rest} {ws' = us'} {calls = cs'} m later) (goes_on {ws' = xs'} {calls = ds'} m' later') =
        let one = makes_once s _ _ _ _ _ _ _ _ _ m m' in
        let both = made_once r rest us' xs' cs' ds' v w t u later (subst (λ (q : State). Made lists book z branch_size room om pm oh ph q rest xs' ds' w u) (sym one.3) later') in
        ((one.0, both.0), rw (both.1, one.1) refl, both.2, both.3)

pub one_end : {O P H Q : Type 0} (om : OrderMeaning H) (pm : PolicyMeaning Q) (oh : O → H) (ph : P → Q) → MadeOnce om pm oh ph
one_end om pm oh ph lists book z branch_size room s ws us xs cs ds v w t u = made_once lists book z branch_size room om pm oh ph s ws us xs cs ds v w t u
