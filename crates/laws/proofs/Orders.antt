-- What an order or a policy of any make answers is lawful, whatever it holds.
use Rattle.std.proofs.Common.{ℕ, ◌≤◌, length, get_or, arith}
use Rattle.branching.specs.Order.{OrderMeaning, Lawful}
use Rattle.branching.specs.Policy.{PolicyMeaning, LawfulPolicy}
use Rattle.laws.specs.Orders.{Order, IsLawfulOrder, IsLawfulPolicy, held_after, behaviour, moved_on, cutoffs}
use Rattle.laws.specs.Sizes.{IsLawfulOn, IsLawfulEverywhere}
use Rattle.laws.specs.Jobs.{fewest}
use Rattle.branching.specs.FewestLemmas.{fewest_of_is, branches_from, remains_from}

pub behaves : {H : Type 0} (o : OrderMeaning H) → Lawful o → (h : H) → IsLawfulOrder (behaviour o h)
behaves o l h = record { branches = λ es ms d. l.branches (held_after o h es) ms d; remains = λ es ms g d. l.remains (held_after o h es) ms g d }

pub cuts_off : {H : Type 0} (p : PolicyMeaning H) → LawfulPolicy p → (h : H) → IsLawfulPolicy (cutoffs p h)
cuts_off p l h n = l.positive (moved_on p h n)

-- A lawful order is right on at most 200 groups.
pub lawful_on : (o : Order) (n : ℕ) → IsLawfulOrder o → n ≤ 200 → IsLawfulOn n o
lawful_on o n l at_most = record {
  branches = λ es ms e w. l.branches es ms (record { few = omega (arith, e, at_most); words = w });
  remains = λ es ms g e w. l.remains es ms g (record { few = omega (arith, e, at_most); words = w });
}

-- One that is right everywhere is right on any number of groups.
pub everywhere_on : (o : Order) (n : ℕ) → IsLawfulEverywhere o → IsLawfulOn n o
everywhere_on o n l = record { branches = λ es ms e w. l.branches es ms; remains = λ es ms g e w. l.remains es ms g }

-- Fewest first is right everywhere.
pub fewest_everywhere : IsLawfulEverywhere fewest
fewest_everywhere = record {
  branches = λ es ms. branches_from ms _ (fewest_of_is ms (length ms));
  remains = λ es ms g. remains_from (get_or ms g 0);
}
