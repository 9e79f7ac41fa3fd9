-- The rule ends across from each group, as chains: for each group its last end, and for each end the one before it with the same group across.
use Rattle.std.specs.Prelude.{◌≡◌, ℕ, ◌+◌, ◌≤◌, Bool, List, length, Option, Some}
use Rattle.rules.specs.Meanings.{Meaning}
use Rattle.propagation.specs.Waits.{at_end}
use Rattle.rules.specs.Supports.{far}
use Rattle.propagation.specs.Chains.{link, Chains, Below}

-- The end numbered n has group g across.
abbrev pub Facing : Meaning → ℕ → ℕ → Type 0
Facing m g n = (i : ℕ) × (s : Bool) × (x : ℕ × ℕ) × (n ≡ at_end i s) × (m.ends i ≡ Some x) × (far s x ≡ g)

-- Up to 8192 the chains have a place for each end, and from there on one for each group. They have the ends below k.
abbrev pub Chained : Meaning → ℕ → List (Option ℕ) → Type 0
Chained m k wires = Chains (Below (Facing m) k) (λ g. link wires (8192 + g)) (link wires)

-- All ends of the book are in the chains.
pub record Wired (m : Meaning) (wires : List (Option ℕ)) : Type 0 where
  pub size : length wires ≡ 8392
  pub groups : m.groups ≤ 200
  pub rules : m.count ≤ 4096
  pub chains : Chains (Facing m) (λ g. link wires (8192 + g)) (link wires)
