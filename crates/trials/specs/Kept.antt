-- Whether channels are a plan of a small job.
use Rattle.std.specs.Prelude.{ℕ, ◌/◌, ◌%◌, ◌^◌, Bool, true, ◌&&◌, ◌==◌, List, length, Some, None, Option, nat_le, nat_lt, slice_get, slice_index}
use Rattle.std.specs.Int.{abs_diff}
use Rattle.std.specs.List.{list_all, zip}
use Rattle.trials.specs.declared.job.Gap.{Gap}
use Rattle.trials.specs.declared.job.Table.{Table}

-- the set has the channel
abbrev pub has : ℕ → ℕ → Bool
has set c = nat_lt c 64 && set / 2 ^ c % 2 == 1

-- a listed channel: the pair has a channel, and then a list
abbrev pub listed : ℕ × ℕ → Bool
listed p = has p.1 p.0

-- the channels are the gap or more apart
abbrev pub apart : ℕ → ℕ → ℕ → Bool
apart gap a b = nat_le gap (abs_diff a b)

-- the row of a has b
abbrev pub in_rows : List ℕ → ℕ → ℕ → Bool
in_rows rows a b = nat_lt a 64 && has (slice_index rows a) b

-- the two channels, where both are there, are permitted
abbrev pub both : (ℕ → ℕ → Bool) → Option ℕ → Option ℕ → Bool
both permitted None _ = true
both permitted (Some a) None = true
both permitted (Some a) (Some b) = permitted a b

-- the channels so far, one a group, keep a rule between two groups
abbrev pub kept : List ℕ → ℕ × ℕ → (ℕ → ℕ → Bool) → Bool
kept channels groups permitted = both permitted (slice_get channels groups.0) (slice_get channels groups.1)

-- they keep every rule
abbrev pub all_kept : List ℕ → List Gap → List Table → Bool
all_kept channels gaps tables = list_all (λ g. kept channels (g.first, g.second) (apart g.gap)) gaps && list_all (λ t. kept channels (t.first, t.second) (in_rows t.rows)) tables

-- they are a plan: one listed channel for each group, and every rule kept
abbrev pub plan : List ℕ → List ℕ → List Gap → List Table → Bool
plan channels lists gaps tables = (length channels == length lists && list_all listed (zip channels lists)) && all_kept channels gaps tables
