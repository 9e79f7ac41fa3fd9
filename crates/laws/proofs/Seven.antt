-- The run of seven calls.
use Rattle.std.proofs.Common.{ℕ, List, [], ◌∷◌, replicate, refl, arith}
use lib.Count.{ones, ones_in, count_trailing_zeros}
use Rattle.branching.specs.Policy.{geometric}
use Rattle.rules.specs.Meanings.{Meaning}
use Rattle.rules.specs.Gaps.{gaps, gaps_lawful}
use Rattle.rules.specs.declared.gap.GapEntry.{GapEntry}
use Rattle.model.specs.Moves.{State, start, closing, deciding, restarting}
use Rattle.laws.specs.Orders.{Policy, IsLawfulPolicy, cutoffs}
use Rattle.laws.specs.Sittings.{Search, begun, Verdict, unsettled, Sits}
use Rattle.laws.specs.Requests.{Request}
use Rattle.laws.specs.Runs.{Run, opened, sat, restarted, sitting_refused, restart_refused}
use Rattle.laws.specs.Jobs.{gap_rule, fewest, SevenCalls}
use Rattle.laws.proofs.Jobs.{fewest_behaves}
use Rattle.laws.proofs.Orders.{lawful_on}
use Rattle.laws.proofs.Total.{sits_exists}

abbrev lists : List ℕ
lists = 33 ∷ 6 ∷ 6 ∷ []

abbrev three_rules : List GapEntry
three_rules = gap_rule 0 1 2 ∷ gap_rule 0 2 2 ∷ gap_rule 1 2 1 ∷ []

abbrev book : Meaning
book = gaps 3 three_rules

abbrev policy : Policy
policy = cutoffs geometric 10

positive : IsLawfulPolicy policy
positive n = omega arith

-- A call with the allowance, finding a state whose branch and base are these words.
abbrev call : ℕ → ℕ → ℕ → ℕ → ℕ → List ℕ → List ℕ → Request
call allowance branch_length base_used moves since branch base = record {
  lists = lists;
  book_groups = 3;
  book_rules = 3;
  groups = 3;
  branch_length = branch_length;
  base_used = base_used;
  moves = moves;
  since = since;
  allowance = allowance;
  domains_size = 3;
  marks_size = 256;
  rule_places = 6;
  group_places = 3;
  plan_size = 3;
  branch = branch;
  base = base;
}

abbrev sitting_from : (n : ℕ) (s : State) → (v : Verdict) × (t : Search) × Sits lists book fewest policy 4 n (begun s) v t
sitting_from n s = sits_exists lists book (gaps_lawful 3 three_rules) fewest (lawful_on fewest 3 fewest_behaves (omega arith)) policy 4 n (begun s)

abbrev q1 : Request
q1 = call 1 0 0 0 0 (replicate 192 0) (replicate 4 0)

abbrev run1 : Run lists book unsettled start
run1 = opened q1 refl (record { groups = refl; rules = refl }) refl

abbrev s2 : State
s2 = deciding 0 start

abbrev run2 : Run lists book unsettled s2
unfolding ones ones_in count_trailing_zeros
run2 = sat run1 q1 (record { carried = record { groups = refl; branch_length = refl; base_used = refl; moves = refl; since = refl }; listed = refl; branch = refl; base = refl })
    (record { groups = refl; rules = refl }) refl fewest fewest_behaves policy positive (sitting_from 1 start).2

abbrev q2 : Request
q2 = call 1 1 0 1 0 (replicate 192 0) (replicate 4 0)

abbrev s3 : State
s3 = closing s2

abbrev run3 : Run lists book unsettled s3
unfolding ones ones_in count_trailing_zeros
run3 = sat run2 q2 (record { carried = record { groups = refl; branch_length = refl; base_used = refl; moves = refl; since = refl }; listed = refl; branch = refl; base = refl })
    (record { groups = refl; rules = refl }) refl fewest fewest_behaves policy positive (sitting_from 1 s2).2

abbrev q3 : Request
q3 = call 0 1 0 2 1 (65536 ∷ replicate 191 0) (replicate 4 0)

abbrev run4 : Run lists book unsettled (restarting s3)
run4 = restarted run3 q3 (record { carried = record { groups = refl; branch_length = refl; base_used = refl; moves = refl; since = refl }; listed = refl; branch = refl; base = refl }) refl

abbrev q4 : Request
q4 = call 100 0 2 3 0 (replicate 192 0) (1 ∷ 0 ∷ 0 ∷ 0 ∷ [])

abbrev run5 : Run lists book unsettled (restarting s3)
run5 = restart_refused run4 q4 (record { groups = refl; branch_length = refl; base_used = refl; moves = refl; since = refl }) 14 0 refl

abbrev q5 : Request
q5 = call 0 0 2 3 0 (replicate 192 0) (1 ∷ 0 ∷ 0 ∷ 0 ∷ [])

abbrev run6 : Run lists book unsettled (restarting s3)
run6 = sitting_refused run5 q5 (record { groups = refl; branch_length = refl; base_used = refl; moves = refl; since = refl }) 11 0 refl

pub seven_calls : SevenCalls
unfolding ones ones_in count_trailing_zeros
seven_calls =
    let r = sitting_from 100 (restarting s3) in (
      r.1.state,
      sat run6 q4 (record { carried = record { groups = refl; branch_length = refl; base_used = refl; moves = refl; since = refl }; listed = refl; branch = refl; base = refl })
          (record { groups = refl; rules = refl }) refl fewest fewest_behaves policy positive r.2,
      refl,
      refl,
      refl,
      refl,
      refl,
    )
