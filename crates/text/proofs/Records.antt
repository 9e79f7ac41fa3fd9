-- Where the next record stands, and how many are written.
use Rattle.std.proofs.Common.{◌≡◌, ◌≢◌, ℕ, suc, ◌+◌, ◌<◌, ◌≤◌, ◌⊎◌, Bool, true, false, cond, List, [], ◌++◌, length, Some, None, Option, arith, ◌==◌, refl, sym, subst, ap, ◌∙◌, inl, inr}
use Rattle.std.proofs.lemmas.Bool.{cases_lt, false≢true}
use Rattle.std.proofs.lemmas.Bool.Decides.{nat_tests}
use Rattle.std.specs.Option.{option_or}
use Rattle.rules.specs.Tables.{row}
use Rattle.jobs.specs.declared.item.Item.{Item}
use Rattle.jobs.specs.declared.judge.Room.{Room}
use Rattle.jobs.specs.declared.record.Record.{Record}
use Rattle.jobs.specs.declared.record.Record.TheVariants.{End, Group, Gap, Table}
use Rattle.jobs.specs.Records.{kind, size, unread, Shows}
use Rattle.jobs.specs.Items.{item, told}
use Rattle.jobs.specs.Jobs.{State, grown, after, ending, Accepts}
use Rattle.jobs.specs.Jobs.{places}
use Rattle.text.specs.Texts.{size_of, RowText, RowsText, RecordText, RecordsText, JobText}

-- what is read stands in the job
pub within : (bs : List ℕ) (p : ℕ) → unread bs p ≡ None → p + 1 + size (kind bs p) ≤ length bs
within bs p h = grind (arith, nat_tests)

pub fits : (bs : List ℕ) (p : ℕ) (x : Record) → unread bs p ≡ None → Shows x bs p → p + size_of x ≤ length bs
fits bs p (End b) h s = let w = rw s.0 at (within bs p h) in omega (arith, w)
fits bs p (Group b) h s = let w = rw s.0 at (within bs p h) in omega (arith, w)
fits bs p (Gap b) h s = let w = rw s.0 at (within bs p h) in omega (arith, w)
fits bs p (Table b) h s = let w = rw s.0 at (within bs p h) in omega (arith, w)

pub some_bytes : (x : Record) → 0 < size_of x
some_bytes (End b) = omega arith
some_bytes (Group b) = omega arith
some_bytes (Gap b) = omega arith
some_bytes (Table b) = omega arith

abbrev pub kind_of : Record → ℕ
kind_of (End b) = 0
kind_of (Group b) = 1
kind_of (Gap b) = 2
kind_of (Table b) = 3

-- the place behind a record, and that it is no end
shown_item : (bs : List ℕ) (p : ℕ) (x : Record) → Shows x bs p → (item bs p ≡ told x p)
shown_item bs p (End b) s = rw (s.0, s.1) refl
shown_item bs p (Group b) s = rw (s.0, s.1) refl
shown_item bs p (Gap b) s = rw (s.0, s.1) refl
shown_item bs p (Table b) s = rw (s.0, s.1) refl

grown_at : (s : State) (x : Record) → kind_of x ≢ 0 → (grown s (told x s.at)).at ≡ s.at + size_of x
grown_at s (End b) h = absurd (h refl)
grown_at s (Group b) h = refl
grown_at s (Gap b) h = refl
grown_at s (Table b) h = refl

shown_kind : (bs : List ℕ) (p : ℕ) (x : Record) → Shows x bs p → kind bs p ≡ kind_of x
shown_kind bs p (End b) s = s.0
shown_kind bs p (Group b) s = s.0
shown_kind bs p (Gap b) s = s.0
shown_kind bs p (Table b) s = s.0

-- the rows with one more
pub rows_more : (body : List ℕ) (o n set : ℕ) (xs ys : List ℕ) → RowsText body o n xs → set ≡ row body o n → RowText n set ys → RowsText body o (n + 1) (xs ++ ys)
rows_more body o n set xs ys r e t =
    let e1 : suc n ≡ n + 1 = omega arith in
    let t1 : RowText n (row body o n) ys = subst (λ (v : ℕ). RowText n v ys) e t in
    subst (λ (k : ℕ). RowsText body o k (xs ++ ys)) e1 (xs, ys, r, t1, refl)

-- some records are written, none of them an end
pub record Written (job : List ℕ) (at : ℕ) (bs : List ℕ) : Type 0 where
  pub count : ℕ
  pub stands : at ≡ (after job count).at
  pub text : RecordsText job count bs
  pub no_end : (j : ℕ) → j < count → kind job (after job j).at ≢ 0

pub written_none : (job : List ℕ) → Written job 0 []
written_none job = record { count = 0; stands = refl; text = refl; no_end = λ j h. absurd (omega (arith, h)) }

one_more : (P : ℕ → Type 0) (n j : ℕ) → ((k : ℕ) → k < n → P k) → P n → j < suc n → P j
one_more P n j h p l = elim (cases_lt j n) as (λ _. P j) [ inl k ↦ h j k | inr k ↦ subst P (omega (arith, k, l)) p ]

pub written_more : (job : List ℕ) (at : ℕ) (bs ys : List ℕ) (x : Record) → Written job at bs → Shows x job at → kind job at ≢ 0 → RecordText x ys → Written job (at + size_of x) (bs ++ ys)
written_more job at bs ys x w s k t =
    let shows : Shows x job (after job w.count).at = subst (λ (p : ℕ). Shows x job p) w.stands s in
    let no_end : kind_of x ≢ 0 = λ e. k (shown_kind job at x s ∙ e) in
    let next : (after job (suc w.count)).at ≡ (after job w.count).at + size_of x = ap (λ i. (grown (after job w.count) i).at) (shown_item job (after job w.count).at x shows) ∙ grown_at (after job w.count) x no_end in
    let here : kind job (after job w.count).at ≢ 0 = subst (λ (p : ℕ). kind job p ≢ 0) w.stands k in
    record {
      count = suc w.count;
      stands = ap (λ p. p + size_of x) w.stands ∙ sym next;
      text = (x, bs, ys, w.text, shows, t, refl);
      no_end = λ j l. one_more (λ i. kind job (after job i).at ≢ 0) w.count j w.no_end here l;
    }

ending_cond : (b : Bool) (x y : Item) → ending x ≡ false → ending y ≡ false → ending (cond b x y) ≡ false
ending_cond true x y f g = f
ending_cond false x y f g = g

no_zero : (k : ℕ) → k ≢ 0 → (k == 0) ≡ false
no_zero k h = grind (arith, nat_tests)

-- a record is an end just where its byte of kind is 0
not_ending : (bs : List ℕ) (p : ℕ) → kind bs p ≢ 0 → ending (item bs p) ≡ false
not_ending bs p h = rw (no_zero _ h) (ending_cond (kind bs p == 1) _ _ refl (ending_cond (kind bs p == 2) _ _ refl refl))

is_ending : (bs : List ℕ) (p : ℕ) → kind bs p ≡ 0 → ending (item bs p) ≡ true
is_ending bs p h = rw h refl

or_none : {X : Type 0} (a b : Option X) → option_or a b ≡ None → a ≡ None
or_none None b e = refl
or_none (Some x) b e = absurd (let z : ⊥ = cc in z)

reaches : (job : List ℕ) (m : Room) (i n : ℕ) → Accepts job m i → ((j : ℕ) → j < n → kind job (after job j).at ≢ 0) → n ≤ i
reaches job m i n a h = elim (cases_lt i n) as (λ _. n ≤ i) [ inl l ↦ absurd (false≢true (sym (not_ending job (after job i).at (h i l)) ∙ a.ends)) | inr l ↦ l ]

goes_on : (job : List ℕ) (m : Room) (i n : ℕ) → Accepts job m i → (unread job (after job n).at ≡ None → ⊥) ⊎ (kind job (after job n).at ≡ 0) → i ≤ n
goes_on job m i n a s = elim (cases_lt n i) as (λ _. i ≤ n) [
  | inl l ↦ absurd (elim s as (λ _. ⊥) [
    | inl f ↦ f (or_none _ _ (a.before n l).fits)
    | inr e ↦ false≢true (sym (a.before n l).more ∙ is_ending job (after job n).at e)
  ])
  | inr l ↦ l
]

-- once there is no next record, all are written
pub written_all : (job : List ℕ) (i at : ℕ) (bs : List ℕ) → Accepts job places i → Written job at bs → (unread job at ≡ None → ⊥) ⊎ (kind job at ≡ 0) → JobText job bs
written_all job i at bs a w s =
    let stop : (unread job (after job w.count).at ≡ None → ⊥) ⊎ (kind job (after job w.count).at ≡ 0) = subst (λ (p : ℕ). (unread job p ≡ None → ⊥) ⊎ (kind job p ≡ 0)) w.stands s in
    let same : w.count ≡ i = omega (arith, reaches job places i w.count a w.no_end, goes_on job places i w.count a stop) in
    (i, a, subst (λ (n : ℕ). RecordsText job n bs) same w.text)
