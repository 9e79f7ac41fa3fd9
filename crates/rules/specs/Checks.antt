-- What a check of a plan answers. Assumes nothing.
use Rattle.std.specs.Prelude.{◌≡◌, ℕ, zero, suc, ◌<◌, ◌≤◌, Bool, false, cond, not, ◌&&◌, List, length, Some, None, Option, Result, MatchResult, ◌==◌, nat_le, slice_index, slice_index_or}
use Rattle.std.specs.Option.{option_or}
use Rattle.rules.specs.Channels.{channel_in}
use Rattle.rules.specs.Meanings.{Meaning, Lawful}
use Rattle.rules.specs.Plans.{Listed, Complete, BreaksAt, Plan}
use Rattle.rules.specs.declared.refusal.Refusal.{Refusal}
use Rattle.rules.specs.declared.refusal.Refusal.TheVariants.{Counts, NotListed, RuleBroken}

-- the lowest number below n that passes a test
abbrev pub lowest : (ℕ → Bool) → ℕ → Option ℕ
lowest t zero = None
lowest t (suc n) = option_or (lowest t n) (cond (t n) (Some n) None)

-- the refusal with a place, where there is one
abbrev pub placed_at : (ℕ → Refusal) → Option ℕ → Option Refusal
placed_at f None = None
placed_at f (Some k) = Some (f k)

-- 1 to 200 groups, as many in the book and in the plan, and at most 4,096 rules
abbrev pub counts_fit : List ℕ → Meaning → List ℕ → Bool
counts_fit lists book x =
    nat_le 1 (length lists) && (nat_le (length lists) 200 && (book.groups == length lists && (nat_le book.count 4096 && length x == length lists)))

-- whether the channel of group g is missing in its list
abbrev pub unlisted : List ℕ → List ℕ → ℕ → Bool
unlisted lists x g = not (channel_in (slice_index lists g) (slice_index_or x g 64))

-- whether rule i, which has these ends, binds and does not permit its two channels
abbrev pub broken_by : Option (ℕ × ℕ) → Meaning → List ℕ → ℕ → Bool
broken_by None book x i = false
broken_by (Some e) book x i = not (book.permits i (slice_index_or x e.0 64) (slice_index_or x e.1 64))

abbrev pub broken : Meaning → List ℕ → ℕ → Bool
broken book x i = broken_by (book.ends i) book x i

-- The first refusal: the counts, then the lowest group whose channel is not listed, then the lowest rule broken.
abbrev pub check_refusal : List ℕ → Meaning → List ℕ → Option Refusal
check_refusal lists book x = cond (counts_fit lists book x)
    (option_or (placed_at NotListed (lowest (unlisted lists x) (length lists))) (placed_at RuleBroken (lowest (broken book x) book.count)))
    (Some Counts)

-- What a check answers: that the plan fits where there is no refusal, else the first.
abbrev pub Checked : List ℕ → Meaning → List ℕ → Result (Unit {0}) Refusal → Type 0
Checked lists book x r = MatchResult r (λ _. check_refusal lists book x ≡ None) (λ f. check_refusal lists book x ≡ Some f)

-- The counts as facts.
pub record Counted (lists : List ℕ) (book : Meaning) (x : List ℕ) : Type 0 where
  pub some : 1 ≤ length lists
  pub few : length lists ≤ 200
  pub groups : book.groups ≡ length lists
  pub rules : book.count ≤ 4096
  pub size : length x ≡ length lists

-- The channel of group g is not listed, those of all lower groups are.
pub record FirstUnlisted (lists x : List ℕ) (g : ℕ) : Type 0 where
  pub group : g < length lists
  pub missing : Listed lists g (slice_index_or x g 64) → ⊥
  pub before : (h : ℕ) → h < g → Listed lists h (slice_index_or x h 64)

-- Rule i is broken, and no lower one is.
pub record FirstBroken (book : Meaning) (x : List ℕ) (i : ℕ) : Type 0 where
  pub counted : i < book.count
  pub broken : BreaksAt book x i
  pub before : (j : ℕ) → j < i → BreaksAt book x j → ⊥

-- What each answer of a check means, for every book by its meaning.
pub record CheckMeans (lists : List ℕ) (book : Meaning) (x : List ℕ) : Type 0 where
  pub fits : check_refusal lists book x ≡ None → Counted lists book x × Plan lists book x
  pub plan : Counted lists book x → Plan lists book x → check_refusal lists book x ≡ None
  pub counts : check_refusal lists book x ≡ Some Counts → Counted lists book x → ⊥
  pub not_listed : (g : ℕ) → check_refusal lists book x ≡ Some (NotListed g) → Counted lists book x × FirstUnlisted lists x g
  pub rule_broken : (i : ℕ) → check_refusal lists book x ≡ Some (RuleBroken i) → Counted lists book x × Complete lists x × FirstBroken book x i

abbrev pub CheckFindsPlans : Type 0
CheckFindsPlans = (lists : List ℕ) (book : Meaning) (x : List ℕ) → Lawful book → CheckMeans lists book x
