-- The sittings of a call have one end, and a job one answer.
use Rattle.std.proofs.Common.{◌≡◌, ℕ, ◌+◌, List, ◌++◌, length, replicate, Ok, Err, inl, inr, sym, refl, ap, ◌∙◌, subst, vec_items, length-append, arith}
use Rattle.std.proofs.lemmas.List.{length-replicate}
use Rattle.rules.specs.Meanings.{Meaning}
use Rattle.rules.specs.Refusals.{told}
use Rattle.rules.specs.declared.refusal.Refusal.{Refusal}
use Rattle.branching.specs.Order.{OrderMeaning}
use Rattle.branching.specs.Policy.{PolicyMeaning}
use Rattle.model.specs.Words.{recorded}
use Rattle.model.specs.Moves.{State, start}
use Rattle.laws.specs.Orders.{behaviour, cutoffs}
use Rattle.laws.specs.Sittings.{Search, begun, Verdict, unsettled}
use Rattle.laws.proofs.Once.{sits_once}
use Rattle.search.specs.declared.held.Counts.{Counts}
use Rattle.search.specs.Sittings.{Tells}
use Rattle.jobs.specs.Jobs.{after, Sound}
use Rattle.jobs.specs.Books.{book_of}
use Rattle.jobs.proofs.Decides.{first_is_one, end_stops}
use Rattle.jobs.specs.Jobs.{places}
use Rattle.planner.specs.Sittings.{Between, between, left_by, SitsFrom, Ran, none_left, settled, goes_on, RanOnce}
use Rattle.planner.specs.Answers.{Written, Comes, told_by, Answered, Unanswered, SaySame, AnsweredOnce}
use Rattle.planner.specs.declared.answer.Answer.{Answer}
use Rattle.planner.specs.declared.error.PlanError.TheVariants.{Refused, NoMemory}
use Rattle.planner.specs.declared.solve.Settings.{Settings}
use Rattle.planner.proofs.Accepting.{none≢some}
use Rattle.planner.proofs.Openings.{one_some, apart, one_fault}

module _ {H Q : Type 0} (om : OrderMeaning H) (pm : PolicyMeaning Q) where
  module _ (lists : List ℕ) (book : Meaning) (room allowance : ℕ) where
    one_sitting : (b : Between H Q) (v w : Verdict) (t u : Search) → SitsFrom om pm lists book room allowance b v t → SitsFrom om pm lists book room allowance b w u → (v ≡ w) × (t ≡ u)
    one_sitting b v w t u s r = sits_once lists book (behaviour om b.order) (cutoffs pm b.policy) room allowance (begun b.state) v w t u s.1 r.1

    ran_once : (n : ℕ) (b c d : Between H Q) (v w : Verdict) → Ran om pm lists book room allowance n b v c → Ran om pm lists book room allowance n b w d → (v ≡ w) × (c ≡ d)
    ran_once n b c d v w none_left none_left = (refl, refl)
    ran_once n b c d v w (settled {t = t} s closed) (settled {t = u} r open') = let o = one_sitting b v w t u s r in (o.0, ap (left_by om pm b) o.1)
    ran_once n b c d v w (settled {t = t} s closed) (goes_on {t = u} r more) = absurd (closed (one_sitting b v unsettled t u s r).0)
    ran_once n b c d v w (goes_on {t = t} s more) (settled {t = u} r closed) = absurd (closed (one_sitting b w unsettled u t r s).0)
    ran_once n b c d v w (goes_on {n = k} {t = t} s more) (goes_on {t = u} r others) =
        let o = one_sitting b unsettled unsettled t u s r in
        ran_once k (left_by om pm b t) c d v w more (subst (λ (x : Search). Ran om pm lists book room allowance k (left_by om pm b x) w d) (sym o.1) others)

  pub one_end : RanOnce om pm
  one_end lists book room allowance n b c d v w s r = ran_once lists book room allowance n b c d v w s r

same_counts : (a b : Counts) (s t : State) → s ≡ t → Tells a s → Tells b t → a ≡ b
same_counts a b s t e x y =
    let moves : a.moves ≡ b.moves = x.moves ∙ ap (λ (z : State). z.moves) e ∙ sym y.moves in
    let closings : a.closings ≡ b.closings = x.closings ∙ ap (λ (z : State). z.closings) e ∙ sym y.closings in
    let restarts : a.restarts ≡ b.restarts = x.restarts ∙ ap (λ (z : State). z.restarts) e ∙ sym y.restarts in
    counts_from a.moves b.moves a.closings b.closings a.restarts b.restarts moves closings restarts
  where
    counts_from : (m m' c c' r r' : ℕ) → m ≡ m' → c ≡ c' → r ≡ r' → ◌≡◌ {A = Counts} (record { moves = m; closings = c; restarts = r }) (record { moves = m'; closings = c'; restarts = r' })
    counts_from m m' c c' r r' e f g = rw (e, f, g) refl

same_words : (xs ys : List ℕ) (ns ms : List (List ℕ)) → length xs ≡ length ys → ns ≡ ms → Written xs ns → Written ys ms → xs ≡ ys
same_words xs ys ns ms l e (k, x) (j, y) =
    let words = ap recorded e in
    let a : length xs ≡ length (recorded ns) + k = ap length x ∙ (length-append (recorded ns) (replicate k 0) ∙ ap (λ (i : ℕ). length (recorded ns) + i) (length-replicate k 0)) in
    let b : length ys ≡ length (recorded ms) + j = ap length y ∙ (length-append (recorded ms) (replicate j 0) ∙ ap (λ (i : ℕ). length (recorded ms) + i) (length-replicate j 0)) in
    let same : k ≡ j = omega (arith, a, b, l, ap length words) in
    x ∙ (ap (λ (ws : List ℕ). ws ++ replicate k 0) words ∙ (ap (λ (i : ℕ). recorded ms ++ replicate i 0) same ∙ sym y))

two_answers : {H Q : Type 0} (om : OrderMeaning H) (pm : PolicyMeaning Q) (bs : List ℕ) (settings : Settings) (h h1 h2 : H) (q q1 q2 : Q) (a b : Answer)
    → Answered om pm bs settings h h1 q q1 a → Answered om pm bs settings h h2 q q2 b → SaySame (Ok a) (Ok b)
two_answers {H = H} {Q = Q} om pm bs settings h h1 h2 q q1 q2 a b x y =
    let e : y.job ≡ x.job = first_is_one (Sound bs places) y.job x.job y.accepts.before (end_stops bs places y.job y.accepts) x.accepts.before (end_stops bs places x.job x.accepts) in
    let lists = (after bs x.job).lists in
    let book = book_of bs (after bs x.job) in
    let other : (r : Comes om pm book lists settings.base_words settings start h h2 q q2 (told_by b.verdict) b.counts) × Written (vec_items b.base) r.end.base =
    subst (λ (i : ℕ). (r : Comes om pm (book_of bs (after bs i)) (after bs i).lists settings.base_words settings start h h2 q q2 (told_by b.verdict) b.counts) × Written (vec_items b.base) r.end.base) e (y.came, y.written) in
    let one = ran_once om pm lists book settings.base_words settings.allowance settings.sittings (between start h q) _ _ _ _ x.came.ran other.0.ran in
    let state : x.came.end ≡ other.0.end = ap (λ (z : Between H Q). z.state) one.1 in (
      one.0,
      same_counts a.counts b.counts x.came.end other.0.end state x.came.tells other.0.tells,
      same_words (vec_items a.base) (vec_items b.base) x.came.end.base other.0.end.base (sym a.base.ok.0 ∙ (x.base ∙ (sym y.base ∙ b.base.ok.0))) (ap (λ (z : State). z.base) state) x.written other.1,
    )

-- A refusal comes where no answer does.
no_refusal : {H Q : Type 0} (om : OrderMeaning H) (pm : PolicyMeaning Q) (bs : List ℕ) (settings : Settings) (h h' : H) (q q' : Q) (a : Answer) (e : Refusal)
    → Answered om pm bs settings h h' q q' a → Unanswered bs settings (Refused e) → ⊥
no_refusal om pm bs settings h h' q q' a e x (inl u) = apart bs places x.job x.accepts u.0 u.1.0 u.1.1
no_refusal om pm bs settings h h' q q' a e x (inr u) = none≢some _ _ x.within u.1

two_refusals : (bs : List ℕ) (settings : Settings) (e f : Refusal) → Unanswered bs settings (Refused e) → Unanswered bs settings (Refused f) → told e ≡ told f
two_refusals bs settings e f (inl u) (inl v) = u.2 ∙ (one_fault bs places u.0 v.0 u.1.0 v.1.0 u.1.1 v.1.1 ∙ sym v.2)
two_refusals bs settings e f (inl u) (inr v) = absurd (apart bs places v.0.0 v.0.1 u.0 u.1.0 u.1.1)
two_refusals bs settings e f (inr u) (inl v) = absurd (apart bs places u.0.0 u.0.1 v.0 v.1.0 v.1.1)
two_refusals bs settings e f (inr u) (inr v) = one_some _ _ (sym u.1 ∙ v.1)

pub one_answer : {H Q : Type 0} (om : OrderMeaning H) (pm : PolicyMeaning Q) → AnsweredOnce om pm
one_answer om pm bs settings h h1 h2 q q1 q2 (Ok a) (Ok b) x y = two_answers om pm bs settings h h1 h2 q q1 q2 a b x y
one_answer om pm bs settings h h1 h2 q q1 q2 (Ok a) (Err (Refused e)) x y = no_refusal om pm bs settings h h1 q q1 a e x y
one_answer om pm bs settings h h1 h2 q q1 q2 (Ok a) (Err NoMemory) x y = tt
one_answer om pm bs settings h h1 h2 q q1 q2 (Err (Refused e)) (Ok a) x y = no_refusal om pm bs settings h h2 q q2 a e y x
one_answer om pm bs settings h h1 h2 q q1 q2 (Err (Refused e)) (Err (Refused f)) x y = two_refusals bs settings e f x y
one_answer om pm bs settings h h1 h2 q q1 q2 (Err (Refused e)) (Err NoMemory) x y = tt
one_answer om pm bs settings h h1 h2 q q1 q2 (Err NoMemory) s x y = tt
