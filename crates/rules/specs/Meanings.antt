-- What a rule book stands for. Assumes nothing.
use Rattle.std.specs.Prelude.{◌≡◌, ℕ, ◌<◌, ◌≤◌, min, Bool, true, false, cond, not, ◌&&◌, is_some, IfSome, Some, None, Option, ◌==◌, ◌≢◌, nat_lt}

-- the most rules that a book's list has
abbrev pub most : ℕ
most = 4294967295

-- A number of groups and a list of rules. A blank rule, and one past the count, has no ends.
pub record Meaning : Type 0 where
  pub groups : ℕ
  pub count : ℕ
  pub ends : ℕ → Option (ℕ × ℕ)
  pub permits : ℕ → ℕ → ℕ → Bool

-- two different groups below the number
abbrev pub Apart : ℕ → ℕ × ℕ → Type 0
Apart n e = (e.0 < n) × (e.1 < n) × (e.0 ≢ e.1)

pub record Lawful (m : Meaning) : Type 0 where
  pub few : m.count ≤ most
  pub past : (i : ℕ) → m.count ≤ i → m.ends i ≡ None
  pub apart : (i : ℕ) → IfSome (m.ends i) (Apart m.groups)
  pub blank : (i a b : ℕ) → m.ends i ≡ None → m.permits i a b ≡ false
  pub high : (i a b : ℕ) → m.permits i a b ≡ true → (a < 64) × (b < 64)

-- A rule that binds is one of the count, and has two different groups of the book.
pub record Binding (m : Meaning) (i g h : ℕ) : Type 0 where
  pub counted : i < m.count
  pub first : g < m.groups
  pub second : h < m.groups
  pub apart : g ≡ h → ⊥

-- the pair where the two groups are different and below n, else nothing
abbrev pub sound : ℕ → ℕ × ℕ → Option (ℕ × ℕ)
sound n e = cond (nat_lt e.0 n && (nat_lt e.1 n && not (e.0 == e.1))) (Some e) None

-- A book over a list of len entries: entry i has the groups (pair i), and permits where (allows i).
abbrev pub listed_ends : ℕ → ℕ → (ℕ → ℕ × ℕ) → (ℕ → Bool) → ℕ → Option (ℕ × ℕ)
listed_ends n len pair whole i = cond (nat_lt i (min len most) && whole i) (sound n (pair i)) None

abbrev pub listed : ℕ → ℕ → (ℕ → ℕ × ℕ) → (ℕ → Bool) → (ℕ → ℕ → ℕ → Bool) → Meaning
listed n len pair whole allows = record {
  groups = n;
  count = min len most;
  ends = listed_ends n len pair whole;
  permits = λ i a b. is_some (listed_ends n len pair whole i) && (nat_lt a 64 && (nat_lt b 64 && allows i a b));
}
