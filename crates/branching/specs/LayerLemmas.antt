-- What the last-conflict layer answers. Assumes nothing.
use Rattle.std.specs.Prelude.{ℕ, List, [], ◌∷◌, IfSome, Some, None, Option}
use Rattle.std.proofs.lemmas.Bool.{cond_both, leb-true}
use Rattle.branching.specs.Channels.{Open, open?, count}
use Rattle.branching.specs.Order.{OrderMeaning, Domains, Lawful, Branches}
use Rattle.branching.specs.Layer.{Layer, earliest, ready, group_by, last_conflict}

-- an answer, if any, is a group with two or more
abbrev OpenIf : List ℕ → Option ℕ → Type 0
OpenIf ms a = IfSome a (Open ms)

earliest_open_lem : (gs ms : List ℕ) → OpenIf ms (earliest gs ms)
earliest_open_lem [] ms = tt
earliest_open_lem (g ∷ gs) ms = cond_both (open? ms g) (Some g) (earliest gs ms) (OpenIf ms) (leb-true 2 (count ms g)) (λ _. earliest_open_lem gs ms)

ready_open : (a : Option ℕ) (ms : List ℕ) → OpenIf ms (ready a ms)
ready_open None ms = tt
ready_open (Some g) ms = cond_both (open? ms g) (Some g) None (OpenIf ms) (leb-true 2 (count ms g)) (λ _. tt)

module _ {H : Type 0} (o : OrderMeaning H) (laws : Lawful o) where
  by_open : (s : Layer H) (ms : List ℕ) → Domains ms → (a b : Option ℕ) → OpenIf ms a → OpenIf ms b → Branches ms (group_by o s ms a b)
  by_open s ms d (Some g) b p q = p
  by_open s ms d None (Some g) p q = q
  by_open s ms d None None p q = laws.branches s.below ms d

  pub layer_lawful : Lawful (last_conflict o)
  layer_lawful = record {
    branches = λ s ms d. by_open s ms d (earliest s.kept ms) (ready s.candidate ms) (earliest_open_lem s.kept ms) (ready_open s.candidate ms);
    remains = λ s ms g d. laws.remains s.below ms g d;
  }
