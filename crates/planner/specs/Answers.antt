-- What an answer has to do with its job.
use Rattle.std.specs.Prelude.{◌≡◌, ℕ, ◌*◌, false, ◌&&◌, ◌⊎◌, List, [], ◌∷◌, ◌++◌, nat_le, length, take, replicate, Some, None as Nothing, Ok, Err, Result, MatchResult, vec_items, vec_len}
use Rattle.jobs.specs.declared.fault.LoadFault.{LoadFault}
use Rattle.jobs.specs.Jobs.{after, Accepts}
use Rattle.jobs.specs.Books.{book_of}
use Rattle.jobs.specs.Numbers.{numbered}
use Rattle.planner.specs.declared.answer.Answer.{Answer}
use Rattle.planner.specs.declared.answer.Verdict.{Verdict}
use Rattle.planner.specs.declared.answer.Verdict.TheVariants.{Plan, None, Open}
use Rattle.planner.specs.declared.error.PlanError.{PlanError}
use Rattle.planner.specs.declared.error.PlanError.TheVariants.{Refused, NoMemory}
use Rattle.planner.specs.declared.memory.Memory.{Memory}
use Rattle.planner.specs.declared.solve.Settings.{Settings}
use Rattle.rules.specs.Meanings.{Meaning}
use Rattle.rules.specs.Refusals.{told}
use Rattle.rules.specs.declared.refusal.Refusal.{Refusal}
use Rattle.branching.specs.Order.{OrderMeaning}
use Rattle.branching.specs.Policy.{PolicyMeaning, geometric}
use Rattle.branching.specs.Fewest.{fewest_first}
use Rattle.branching.specs.Layer.{Layer, last_conflict}
use Rattle.model.specs.Words.{base_of, recorded}
use Rattle.model.specs.Moves.{State, start}
use Rattle.laws.specs.Sittings.{Verdict as Reached, none, plan, unsettled}
use Rattle.laws.specs.Requests.{Request, Refusal as Due, unless, first_of}
use Rattle.laws.specs.Runs.{Run, opening, calls, Found}
use Rattle.laws.specs.Law.{Law}
use Rattle.search.specs.declared.held.Counts.{Counts}
use Rattle.search.specs.declared.held.OpenSearch.{OpenSearch}
use Rattle.search.specs.declared.held.Sat.{Sat}
use Rattle.search.specs.declared.held.Sat.TheVariants.{Plan as SatPlan, None as SatNone, Open as SatOpen}
use Rattle.search.specs.Ends.{counted, came_to}
use Rattle.search.specs.Turns.{state_of}
use Rattle.search.specs.Calls.{asking}
use Rattle.search.specs.Sittings.{Lent, lent, Tells}
use Rattle.planner.specs.Sittings.{between, Ran, sittings}
use Rattle.jobs.specs.Jobs.{places}
use Rattle.planner.specs.Stores.{Faulty, Unstored}

-- a plan has one channel for each of n groups
abbrev pub Shaped : ℕ → Verdict → Type 0
Shaped n (Plan v) = vec_len v ≡ n
Shaped n None = Unit {0}
Shaped n Open = Unit {0}

-- the other regions are as large as a search on so many groups and rules asks for
abbrev pub Roomy : ℕ → ℕ → Memory → Type 0
Roomy groups rules m =
    (vec_len m.domains ≡ groups) × (vec_len m.branch ≡ 64 * groups) × (vec_len m.marks ≡ 256) × (vec_len m.ends ≡ 2 * rules) × (vec_len m.settled ≡ groups)

-- nothing stands in any region yet
pub record Zeroed (m : Memory) : Type 0 where
  pub domains : vec_items m.domains ≡ replicate (vec_len m.domains) 0
  pub branch : vec_items m.branch ≡ replicate (vec_len m.branch) 0
  pub plan : vec_items m.plan ≡ replicate (vec_len m.plan) 0
  pub base : vec_items m.base ≡ replicate (vec_len m.base) 0
  pub marks : vec_items m.marks ≡ replicate (vec_len m.marks) 0
  pub ends : vec_items m.ends ≡ replicate (vec_len m.ends) (record { rule = 0; second = false })
  pub settled : vec_items m.settled ≡ replicate (vec_len m.settled) (record { group = 0; channel = 0 })

-- each region is as long as it was
pub record Kept (r s : Memory) : Type 0 where
  pub domains : vec_len s.domains ≡ vec_len r.domains
  pub branch : vec_len s.branch ≡ vec_len r.branch
  pub plan : vec_len s.plan ≡ vec_len r.plan
  pub base : vec_len s.base ≡ vec_len r.base
  pub marks : vec_len s.marks ≡ vec_len r.marks
  pub ends : vec_len s.ends ≡ vec_len r.ends
  pub settled : vec_len s.settled ≡ vec_len r.settled

-- What a sitting in these regions is lent, or leaves.
abbrev pub lent_of : {O P : Type 0} → Memory → O → P → Lent O P
lent_of m o p = lent (vec_items m.domains) (vec_items m.branch) (vec_items m.marks) (vec_items m.ends) (vec_items m.settled) (vec_items m.plan) (vec_items m.base) o p

-- The verdict of the sittings, with the bytes of a plan, and their counts.
abbrev pub reached : List ℕ → Sat → Reached
reached bytes (SatPlan _) = plan bytes
reached bytes (SatNone _) = none
reached bytes (SatOpen _) = unsettled

-- The verdict of an answer.
abbrev pub told_by : Verdict → Reached
told_by (Plan v) = plan (vec_items v)
told_by None = none
told_by Open = unsettled

-- A run came to the state that a search and the words of its branch and base stand for.
abbrev pub Stands : Meaning → List ℕ → OpenSearch → List ℕ → List ℕ → Type 0
Stands book lists s branch base = Run lists book unsettled (state_of s.at branch base)

-- The numbers that a search came to stand, with the branch and the base that are left, for the state.
abbrev pub StandsFor : Memory → State → Sat → Type 0
StandsFor m s t = state_of (came_to t) (vec_items m.branch) (vec_items m.base) ≡ s

-- The words are the nogoods recorded, one after another, and zeros behind them.
abbrev pub Written : List ℕ → List (List ℕ) → Type 0
Written words nogoods = (k : ℕ) × (words ≡ recorded nogoods ++ replicate k 0)

-- So are those of the base, up to the used ones of a search.
abbrev pub Clear : OpenSearch → Memory → Type 0
Clear s m = Written (vec_items m.base) (base_of (take s.at.base_used (vec_items m.base))) × (s.at.base_used ≡ length (recorded (base_of (take s.at.base_used (vec_items m.base)))))

-- Which refusal a sitting is due for its limits: the words of the base, the allowance and the moves that are made in all.
abbrev pub over_limits : ℕ → ℕ → ℕ → Due
over_limits base allowance moves =
    first_of (unless (nat_le base 65536) 10 ∷ unless (nat_le 1 allowance && nat_le allowance 1000000) 11 ∷ unless (nat_le moves 100000000) 12 ∷ [])

-- Which refusal settings are due, if any. A search that was just opened has made no moves.
abbrev pub refusal_of : Settings → Due
refusal_of s = over_limits s.base_words s.allowance (s.sittings * s.allowance)

-- A sitting as it is checked, in these regions.
abbrev pub asked : Meaning → List ℕ → ℕ → OpenSearch → Memory → Request
asked book lists allowance s m =
    asking s.groups s.at lists book.groups book.count allowance
    (record { domains = length (vec_items m.domains); marks = length (vec_items m.marks); ends = length (vec_items m.ends); settled = length (vec_items m.settled); plan = length (vec_items m.plan) })
    (vec_items m.branch) (vec_items m.base)

-- A run came to the search and what the regions hold, and these are as large as a sitting asks for.
pub record Ready (book : Meaning) (lists : List ℕ) (allowance : ℕ) (s : OpenSearch) (m : Memory) : Type 0 where
  pub stands : Stands book lists s (vec_items m.branch) (vec_items m.base)
  pub found : Found lists (asked book lists allowance s m) (state_of s.at (vec_items m.branch) (vec_items m.base))
  pub roomy : Roomy (length lists) book.count m
  pub plan : vec_len m.plan ≡ length lists

module _ {H Q : Type 0} (om : OrderMeaning H) (pm : PolicyMeaning Q) where
  -- The sittings that the settings ask for came from a state to this verdict, with an order and a policy that held h and q and now hold h' and q'; the counts are those of the
  -- state that they came to.
  pub record Comes (book : Meaning) (lists : List ℕ) (room : ℕ) (settings : Settings) (from : State) (h h' : H) (q q' : Q) (v : Reached) (c : Counts) : Type 0 where
    pub end : State
    pub ran : Ran om pm lists book room settings.allowance settings.sittings (between from h q) v (between end h' q')
    pub tells : Tells c end

  -- What the sittings on a search come to, from the regions as they were found to the regions as they are left. Every run that came to what was found goes on to it by just these
  -- sittings, and the law of runs holds of it; and where the base had nothing but recorded nogoods, it has those of the end, in its used words.
  abbrev pub SatOn : Meaning → List ℕ → Settings → OpenSearch → Memory → Memory → H → H → Q → Q → Sat → Type 0
  SatOn book lists settings s m m' h h' q q' t =
      (r : Comes book lists (vec_len m.base) settings (state_of s.at (vec_items m.branch) (vec_items m.base)) h h' q q' (reached (take (length lists) (vec_items m'.plan)) t) (counted t))
      × StandsFor m' r.end t
      × ((run : Stands book lists s (vec_items m.branch) (vec_items m.base)) → (next : Run lists book (reached (take (length lists) (vec_items m'.plan)) t) r.end)
      × (calls lists book next ≡ sittings om pm lists book (vec_len m.base) settings.allowance r.ran ++ calls lists book run) × Law lists book next)
      × (Clear s m → Written (vec_items m'.base) r.end.base × ((came_to t).base_used ≡ length (recorded r.end.base)))

  -- What the sittings on a job without a fault, by settings that are due no refusal, leave in the regions that are made for it: the settings' sittings on its lists and book came to
  -- the state that the words of the branch and the base stand for. An opening and these sittings are a run of calls, and the law of runs holds of it.
  pub record Searched (bs : List ℕ) (settings : Settings) (h h' : H) (q q' : Q) (m : Memory) (t : Sat) : Type 0 where
    pub job : ℕ
    pub accepts : Accepts bs places job
    pub within : refusal_of settings ≡ Nothing
    pub plan : vec_len m.plan ≡ length (after bs job).lists
    pub branch : vec_len m.branch ≡ 64 * length (after bs job).lists
    pub base : vec_len m.base ≡ settings.base_words
    pub came : Comes (book_of bs (after bs job)) (after bs job).lists settings.base_words settings start h h' q q' (reached (vec_items m.plan) t) (counted t)
    pub run : Run (after bs job).lists (book_of bs (after bs job)) (reached (vec_items m.plan) t) came.end
    pub called : calls (after bs job).lists (book_of bs (after bs job)) run ≡ sittings om pm (after bs job).lists (book_of bs (after bs job)) settings.base_words settings.allowance came.ran ++ opening ∷ []
    pub law : Law (after bs job).lists (book_of bs (after bs job)) run
    pub written : Written (vec_items m.base) came.end.base
    pub stands : StandsFor m came.end t
    pub used : (came_to t).base_used ≡ length (recorded came.end.base)

  -- An answer comes only to a job without a fault, by settings that are due no refusal. It has the verdict and the counts of the very sittings that the settings ask for, on the job's
  -- lists and book. An opening and these sittings are a run of calls, and the law of runs holds of it: so there is no plan where the verdict is "none", and the channels are a plan
  -- where it is one. A plan has one channel for each group. The base has the nogoods that were recorded.
  pub record Answered (bs : List ℕ) (settings : Settings) (h h' : H) (q q' : Q) (a : Answer) : Type 0 where
    pub job : ℕ
    pub accepts : Accepts bs places job
    pub within : refusal_of settings ≡ Nothing
    pub shaped : Shaped (length (after bs job).lists) a.verdict
    pub base : vec_len a.base ≡ settings.base_words
    pub came : Comes (book_of bs (after bs job)) (after bs job).lists settings.base_words settings start h h' q q' (told_by a.verdict) a.counts
    pub run : Run (after bs job).lists (book_of bs (after bs job)) (told_by a.verdict) came.end
    pub called : calls (after bs job).lists (book_of bs (after bs job)) run ≡ sittings om pm (after bs job).lists (book_of bs (after bs job)) settings.base_words settings.allowance came.ran ++ opening ∷ []
    pub law : Law (after bs job).lists (book_of bs (after bs job)) run
    pub written : Written (vec_items a.base) came.end.base

-- A refusal is that of the job's first fault; or the one that the settings are due, where the job has no fault. Memory may be wanting at any job.
abbrev pub Unanswered : List ℕ → Settings → PlanError → Type 0
Unanswered bs settings (Refused r) = Unstored bs (Refused r) ⊎ (((i : ℕ) × Accepts bs places i) × (refusal_of settings ≡ Some (told r)))
Unanswered bs settings NoMemory = Unit {0}

module _ {A : Type 0} where
  -- It is refused with this number and place, unless memory is wanting.
  abbrev pub IsRefused : Result A PlanError → ℕ × ℕ → Type 0
  IsRefused r due = (r ≡ Err NoMemory) ⊎ ((e : Refusal) × (r ≡ Err (Refused e)) × (told e ≡ due))

  -- It is answered, unless memory is wanting.
  abbrev pub IsAnswered : Result A PlanError → Type 0
  IsAnswered r = (r ≡ Err NoMemory) ⊎ ((a : A) × (r ≡ Ok a))

  -- A job with a fault is refused for the first, and one without is answered.
  pub record RefusedAsLoaded (bs : List ℕ) (r : Result A PlanError) : Type 0 where
    pub faulty : (f : LoadFault) → Faulty bs places f → IsRefused r (numbered f.fault, f.offset)
    pub faultless : (i : ℕ) → Accepts bs places i → IsAnswered r

  -- A job with a fault is refused for the first, whatever the settings are. One without is refused for what the settings are due, and answered where they are due nothing.
  pub record RefusedAsDue (bs : List ℕ) (settings : Settings) (r : Result A PlanError) : Type 0 where
    pub faulty : (f : LoadFault) → Faulty bs places f → IsRefused r (numbered f.fault, f.offset)
    pub over : (i : ℕ) → Accepts bs places i → (due : ℕ × ℕ) → refusal_of settings ≡ Some due → IsRefused r due
    pub accepted : (i : ℕ) → Accepts bs places i → refusal_of settings ≡ Nothing → IsAnswered r

-- What the program searches with: last conflict of one group over fewest first, holding nothing, and geometric cutoffs from 10 on.
abbrev pub program : Settings
program = record { base_words = 4096; sittings = 100; allowance = 10000 }

abbrev pub program_order : Layer (Unit {0})
program_order = record { limit = 1; kept = []; candidate = Nothing; below = tt }

abbrev pub AnsweredByProgram : List ℕ → Answer → Type 0
AnsweredByProgram bs a = (h : Layer (Unit {0})) × (q : ℕ) × Answered (last_conflict fewest_first) geometric bs program program_order h 10 q a

-- Two replies say the same: an answer by its verdict, its counts and its base, a refusal by its number and place. Want of memory says nothing.
abbrev pub SaySame : Result Answer PlanError → Result Answer PlanError → Type 0
SaySame (Ok a) (Ok b) = (told_by a.verdict ≡ told_by b.verdict) × (a.counts ≡ b.counts) × (vec_items a.base ≡ vec_items b.base)
SaySame (Ok a) (Err (Refused e)) = ⊥
SaySame (Ok a) (Err NoMemory) = Unit {0}
SaySame (Err (Refused e)) (Ok a) = ⊥
SaySame (Err (Refused e)) (Err (Refused f)) = told e ≡ told f
SaySame (Err (Refused e)) (Err NoMemory) = Unit {0}
SaySame (Err NoMemory) r = Unit {0}

-- Two replies to one job by the same settings, order and policy say the same.
abbrev pub AnsweredOnce : {H Q : Type 0} → OrderMeaning H → PolicyMeaning Q → Type 0
AnsweredOnce {H = H} {Q = Q} om pm = (bs : List ℕ) (settings : Settings) (h h1 h2 : H) (q q1 q2 : Q) (r s : Result Answer PlanError)
    → MatchResult r (Answered om pm bs settings h h1 q q1) (Unanswered bs settings) → MatchResult s (Answered om pm bs settings h h2 q q2) (Unanswered bs settings) → SaySame r s
