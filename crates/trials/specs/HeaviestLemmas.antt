-- What the heaviest-first order answers.
use Rattle.std.specs.Prelude.{ℕ, zero, suc, ◌&&◌, List, length, Some, None, Option, nat_lt, slice_index}
use Rattle.std.proofs.Common.{arith}
use Rattle.std.proofs.lemmas.Bool.{cond_both, leb-true, leb-false, and_parts}
use Rattle.std.specs.Option.{option_map}
use Rattle.branching.specs.Channels.{count, open?}
use Rattle.branching.specs.Order.{Lawful}
use Rattle.branching.specs.FewestLemmas.{fewest_lawful}
use Rattle.trials.specs.Heaviest.{after, heaviest_of, heaviest_first}
use Rattle.trials.specs.Tops.{Among, past, branches_from}

after_among : (ws ms : List ℕ) (n : ℕ) (a : Option ℕ) → Among ms n a → Among ms (suc n) (after ws ms n a)
after_among ws ms n None h =
    cond_both (open? ms n) (Some n) None (Among ms (suc n))
    (λ e. leb-true 2 (count ms n) e)
    (λ e. past ms n None (λ o. omega (arith, leb-false 2 (count ms n) e)) h)
after_among ws ms n (Some b) h =
    cond_both (open? ms n && nat_lt (slice_index ws b) (slice_index ws n)) (Some n) (Some b) (Among ms (suc n))
    (λ e. leb-true 2 (count ms n) (and_parts (open? ms n) (nat_lt (slice_index ws b) (slice_index ws n)) e).0)
    (λ _. h)

heaviest_among : (ws ms : List ℕ) (n : ℕ) → Among ms n (heaviest_of ws ms n)
heaviest_among ws ms zero = λ j l o. absurd (omega arith)
heaviest_among ws ms (suc n) = after_among ws ms n (heaviest_of ws ms n) (heaviest_among ws ms n)

pub heaviest_lawful : Lawful heaviest_first
heaviest_lawful = record {
  branches = λ ws ms _. branches_from ms (heaviest_of ws ms (length ms)) (heaviest_among ws ms (length ms));
  remains = λ ws ms g d. fewest_lawful.remains tt ms g d;
}

-- ---- the loop, which holds the best group so far with its weight
abbrev pub weighed : List ℕ → Option ℕ → Option (ℕ × ℕ)
weighed ws a = option_map (λ g. (g, slice_index ws g)) a
