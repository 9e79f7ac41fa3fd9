-- The small jobs.
use Rattle.std.proofs.Common.{◌≡◌, ℕ, ◌+◌, ◌<◌, ◌≤◌, true, ltb, leb, List, [], ◌∷◌, length, None, refl, arith}
use Rattle.std.proofs.lemmas.Bool.{and_from, or_left, lt-ltb, le-leb}
use lib.Count.{ones, ones_in, count_trailing_zeros}
use Rattle.branching.specs.Fewest.{fewest_first}
use Rattle.branching.specs.Layer.{last_conflict}
use Rattle.branching.specs.Policy.{geometric, steady}
use Rattle.branching.specs.LayerLemmas.{layer_lawful}
use Rattle.branching.specs.FewestLemmas.{fewest_lawful}
use Rattle.rules.specs.Gaps.{gaps, gaps_lawful}
use Rattle.rules.specs.declared.gap.GapEntry.{GapEntry}
use Rattle.model.specs.Moves.{start}
use Rattle.laws.specs.Orders.{IsLawfulOrder, Policy, cutoffs}
use Rattle.laws.specs.Sittings.{Search, begun, Verdict, none, Sits}
use Rattle.laws.specs.Jobs.{gap_rule, fewest, last_conflict_order, Worked, Clash, ClashLater, Three, Jobs}
use Rattle.laws.proofs.Orders.{behaves, lawful_on}
use Rattle.laws.proofs.Filter.{remaining_leaves}
use Rattle.laws.proofs.Total.{sits_exists}

pub fewest_behaves : IsLawfulOrder fewest
fewest_behaves = behaves fewest_first fewest_lawful tt

last_behaves : IsLawfulOrder last_conflict_order
last_behaves = behaves (last_conflict fewest_first) (layer_lawful fewest_first fewest_lawful) (record { limit = 1; kept = []; candidate = None; below = tt })

-- The sitting on a job.
abbrev sitting_on : (lists : List ℕ) → length lists ≤ 200 → (rules : List GapEntry) (policy : Policy) (room : ℕ) → (v : Verdict) × (t : Search) × Sits lists (gaps (length lists) rules) fewest policy room 10000 (begun start) v t
sitting_on lists few rules policy room = sits_exists lists (gaps (length lists) rules) (gaps_lawful (length lists) rules) fewest (lawful_on fewest (length lists) fewest_behaves few) policy room 10000 (begun start)

dead_at_once : Worked (3 ∷ 3 ∷ []) (gap_rule 0 1 2 ∷ []) (cutoffs geometric 10) 4096 none 0 0 0 []
unfolding ones ones_in count_trailing_zeros
dead_at_once = let r = sitting_on (3 ∷ 3 ∷ []) (omega arith) (gap_rule 0 1 2 ∷ []) (cutoffs geometric 10) 4096 in (r.1, r.2, refl, refl, refl, refl)

abbrev clash_gaps : List GapEntry
clash_gaps = gap_rule 0 1 1 ∷ gap_rule 0 2 1 ∷ gap_rule 1 2 1 ∷ []

clash : Clash fewest
unfolding ones ones_in count_trailing_zeros
clash = let r = sitting_on (3 ∷ 3 ∷ 3 ∷ []) (omega arith) clash_gaps (cutoffs geometric 10) 4096 in (r.1, r.2, refl, refl, refl, refl)

clash_by_last : Clash last_conflict_order
unfolding ones ones_in count_trailing_zeros
clash_by_last =
    let r = sits_exists (3 ∷ 3 ∷ 3 ∷ []) (gaps 3 clash_gaps) (gaps_lawful 3 clash_gaps) last_conflict_order (lawful_on last_conflict_order 3 last_behaves (omega arith)) (cutoffs geometric 10) 4096 10000 (begun start) in
    (r.1, r.2, refl, refl, refl, refl)

abbrev three_gaps : List GapEntry
three_gaps = gap_rule 0 1 2 ∷ gap_rule 0 2 2 ∷ gap_rule 1 2 1 ∷ []

three : Three (cutoffs geometric 10) 4096 3 0 []
unfolding ones ones_in count_trailing_zeros
three = let r = sitting_on (33 ∷ 6 ∷ 6 ∷ []) (omega arith) three_gaps (cutoffs geometric 10) 4096 in (r.1, r.2, refl, refl, refl, refl)

three_restarted : Three (cutoffs steady 1) 4096 4 1 (1 ∷ 0 ∷ [])
unfolding ones ones_in count_trailing_zeros
three_restarted = let r = sitting_on (33 ∷ 6 ∷ 6 ∷ []) (omega arith) three_gaps (cutoffs steady 1) 4096 in (r.1, r.2, refl, refl, refl, refl)

three_cramped : Three (cutoffs steady 1) 1 3 0 []
unfolding ones ones_in count_trailing_zeros
three_cramped = let r = sitting_on (33 ∷ 6 ∷ 6 ∷ []) (omega arith) three_gaps (cutoffs steady 1) 1 in (r.1, r.2, refl, refl, refl, refl)

abbrev later_gaps : List GapEntry
later_gaps = gap_rule 2 3 1 ∷ gap_rule 2 4 1 ∷ gap_rule 3 4 1 ∷ []

clash_later : ClashLater fewest 14 7
unfolding ones ones_in count_trailing_zeros
clash_later = let r = sitting_on (3 ∷ 3 ∷ 3 ∷ 3 ∷ 3 ∷ []) (omega arith) later_gaps (cutoffs geometric 10) 4096 in (r.1, r.2, refl, refl, refl, refl)

clash_sooner : ClashLater last_conflict_order 10 5
unfolding ones ones_in count_trailing_zeros
clash_sooner =
    let r = sits_exists (3 ∷ 3 ∷ 3 ∷ 3 ∷ 3 ∷ []) (gaps 5 later_gaps) (gaps_lawful 5 later_gaps) last_conflict_order (lawful_on last_conflict_order 5 last_behaves (omega arith)) (cutoffs geometric 10) 4096 10000 (begun start) in
    (r.1, r.2, refl, refl, refl, refl)

equals_permitted : (c : ℕ) → c < 64 → (gaps 2 (gap_rule 0 1 0 ∷ [])).permits 0 c c ≡ true
equals_permitted c h =
    let low = lt-ltb c 64 h in
    and_from (ltb c 64) _ low (and_from (ltb c 64) _ low (or_left (leb (c + 0) c) _ (le-leb (c + 0) c (omega arith))))

pub jobs : Jobs
jobs = (clash, clash_by_last, clash_later, clash_sooner, three, three_restarted, three_cramped, (λ a b c d e. (refl, refl), refl), dead_at_once, refl, refl, equals_permitted, remaining_leaves (1 ∷ 3 ∷ []) (gaps 2 []) (gaps_lawful 2 []) (record { branch = []; base = (0 ∷ 64 ∷ []) ∷ []; moves = 0; closings = 0; restarts = 0; since = 0 }))
