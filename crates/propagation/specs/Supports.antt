-- Rule ends whose channels have support across, and those that wait.
use Rattle.std.specs.Prelude.{◌≡◌, ℕ, ◌<◌, Bool, true, ◌⊎◌, List, Some}
use Rattle.rules.specs.Meanings.{Meaning}
use Rattle.rules.specs.Supports.{near, far, allows, Backed}
use Rattle.model.specs.Remains.{Family, family}
use Rattle.propagation.specs.declared.records.RuleEnd.{RuleEnd}
use Rattle.propagation.specs.Waits.{waits, at_end}

-- In the family each channel at this end has one across that the rule permits.
abbrev pub Supported : Meaning → Family → ℕ → Bool → Type 0
Supported m k i s = (e : ℕ × ℕ) → m.ends i ≡ Some e → (a : ℕ) → k (near s e) a ≡ true → (b : ℕ) × (k (far s e) b ≡ true) × (allows m i s a b ≡ true)

-- The one family is within the other.
abbrev pub Inside : Family → Family → Type 0
Inside k l = (g c : ℕ) → k g c ≡ true → l g c ≡ true

-- Every family of a kind that was within what the masks leave is still: nothing goes that such a family has.
abbrev pub StillWithin : (Family → Type 0) → List ℕ → List ℕ → Type 0
StillWithin F ms ms' = (k : Family) → F k → Inside k (family ms) → Inside k (family ms')

-- The ends that wait before wait after.
abbrev pub Still : List RuleEnd → List RuleEnd → Type 0
Still q q' = (e : ℕ) → waits q e ≡ true → waits q' e ≡ true

-- The ends of rule i that have group g across wait.
abbrev pub Across : Meaning → ℕ → ℕ → List RuleEnd → Type 0
Across m g i q = (s : Bool) (e : ℕ × ℕ) → m.ends i ≡ Some e → far s e ≡ g → waits q (at_end i s) ≡ true

-- The ends of rule i that have group g across wait, or what g keeps backs every channel there.
abbrev pub Served : Meaning → ℕ → ℕ → ℕ → List RuleEnd → Type 0
Served m g keeps i q = (s : Bool) (e : ℕ × ℕ) → m.ends i ≡ Some e → far s e ≡ g → (waits q (at_end i s) ≡ true) ⊎ ((a : ℕ) → a < 64 → Backed m i s keeps a)
