-- Last conflict, over any order. Assumes nothing.
use Rattle.std.specs.Prelude.{ℕ, Bool, false, cond, find, not, ◌&&◌, List, [], ◌∷◌, ◌++◌, length, Some, None, Option, ◌==◌, nat_lt}
use Rattle.std.specs.List.{list_any}
use Rattle.branching.specs.Channels.{open?}
use Rattle.branching.specs.Order.{OrderMeaning}

-- the limit k, the set in the order of adding, the candidate, and what the order below holds
pub record Layer (H : Type 0) : Type 0 where
  pub limit : ℕ
  pub kept : List ℕ
  pub candidate : Option ℕ
  pub below : H

-- the earliest added with two or more channels
abbrev pub earliest : List ℕ → List ℕ → Option ℕ
earliest gs ms = find (open? ms) gs

abbrev pub member : ℕ → List ℕ → Bool
member g gs = list_any (λ x. x == g) gs

-- a candidate with two or more channels
abbrev pub ready : Option ℕ → List ℕ → Option ℕ
ready None ms = None
ready (Some g) ms = cond (open? ms g) (Some g) None

-- a told group becomes the candidate if there is none, the set has under k, and lacks it
abbrev pub fresh : ℕ → List ℕ → Option ℕ → ℕ → Bool
fresh k kept None g = nat_lt (length kept) k && not (member g kept)
fresh k kept (Some _) g = false

module _ {H : Type 0} (o : OrderMeaning H) (s : Layer H) (ms : List ℕ) where
  -- by the earliest of the set, else the candidate, else the order below
  abbrev pub group_by : Option ℕ → Option ℕ → Option ℕ
  group_by (Some g) _ = Some g
  group_by None (Some g) = Some g
  group_by None None = o.group s.below ms

  abbrev pub grouped_by : Option ℕ → Option ℕ → Layer H
  grouped_by (Some g) _ = s
  grouped_by None (Some g) = record { limit = s.limit; kept = s.kept ++ (g ∷ []); candidate = None; below = s.below }
  grouped_by None None = record { limit = s.limit; kept = []; candidate = None; below = o.grouped s.below ms }

abbrev pub last_conflict : {H : Type 0} → OrderMeaning H → OrderMeaning (Layer H)
last_conflict o = record {
  group = λ s ms. group_by o s ms (earliest s.kept ms) (ready s.candidate ms);
  grouped = λ s ms. grouped_by o s ms (earliest s.kept ms) (ready s.candidate ms);
  channel = λ s ms g. o.channel s.below ms g;
  channeled = λ s ms g. record { limit = s.limit; kept = s.kept; candidate = s.candidate; below = o.channeled s.below ms g };
  heard = λ s g. record { limit = s.limit; kept = s.kept; candidate = cond (fresh s.limit s.kept s.candidate g) (Some g) s.candidate; below = o.heard s.below g };
}

-- how many candidates wait
abbrev pub waiting : Option ℕ → ℕ
waiting None = 0
waiting (Some _) = 1
