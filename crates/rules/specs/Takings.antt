-- The channels of a set, taken out one by one.
use Rattle.std.specs.Prelude.{◌≡◌, ℕ, ◌<◌, ◌≤◌, true, not, ◌&&◌, Option, MatchOption, ◌==◌}
use Rattle.rules.specs.Channels.{has}

-- The lowest channel is taken out of the set m, which leaves n; there is none where m is empty.
abbrev pub TakesOne : ℕ → Option ℕ → ℕ → Type 0
TakesOne m r n = MatchOption r (m ≡ 0) (λ c. (c < 64) × (has m c ≡ true) × ((j : ℕ) → has n j ≡ (has m j && not (j == c))) × ((j : ℕ) → has m j ≡ true → c ≤ j))
