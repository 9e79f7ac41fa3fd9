-- Two sittings on one search, one after the other.
use Rattle.std.specs.Prelude.{◌≡◌, ℕ, List, Ok, Err, Result}
use Rattle.rules.specs.Meanings.{Meaning}
use Rattle.rules.specs.declared.refusal.Refusal.{Refusal}
use Rattle.branching.specs.Order.{OrderMeaning}
use Rattle.branching.specs.Policy.{PolicyMeaning}
use Rattle.search.specs.declared.held.OpenSearch.{OpenSearch}
use Rattle.search.specs.declared.held.Sat.{Sat}
use Rattle.search.specs.declared.held.Sat.TheVariants.{Plan, None, Open}
use Rattle.search.specs.Sittings.{Lent, Answers}

module _ {O P H Q : Type 0} (om : OrderMeaning H) (pm : PolicyMeaning Q) (order_holds : O → H) (policy_holds : P → Q) (book : Meaning) (lists : List ℕ) (allowance : ℕ) where
  -- What a sitting on the search finds and leaves, and its answer.
  abbrev pub Sitting : OpenSearch → Lent O P → Lent O P → Result Sat (Refusal × OpenSearch) → Type 0
  Sitting s found left answer = Answers om pm order_holds policy_holds book s lists allowance found left answer

  -- After an answer a search that is handed back open is sat on once more, by what the first sitting left; any other answer stays.
  abbrev pub Next : Result Sat (Refusal × OpenSearch) → Lent O P → Lent O P → Result Sat (Refusal × OpenSearch) → Type 0
  Next (Ok (Open t)) found left answer = Sitting t found left answer
  Next (Ok (Plan d)) found left answer = (answer ≡ Ok (Plan d)) × (left ≡ found)
  Next (Ok (None d)) found left answer = (answer ≡ Ok (None d)) × (left ≡ found)
  Next (Err e) found left answer = (answer ≡ Err e) × (left ≡ found)

  -- Two sittings, or one that settles the search or is refused.
  pub record SatTwice (s : OpenSearch) (found left : Lent O P) (answer : Result Sat (Refusal × OpenSearch)) : Type 0 where
    pub between : Lent O P
    pub first : Result Sat (Refusal × OpenSearch)
    pub sat : Sitting s found between first
    pub next : Next first between left answer
