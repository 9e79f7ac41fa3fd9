-- An order or a policy of one make or of another: it answers and holds what the one in it does. Assumes nothing.
use Rattle.std.specs.Prelude.{ℕ, ◌≤◌, ◌⊎◌, List}
use Rattle.std.proofs.Common.{inl, inr}
use Rattle.branching.specs.Order.{OrderMeaning, Domains, Lawful, Branches, Remains}
use Rattle.branching.specs.Policy.{PolicyMeaning, LawfulPolicy}
use Rattle.visits.specs.declared.one_of.OneOf.{OneOf}
use Rattle.visits.specs.declared.one_of.OneOf.TheVariants.{First, Second}

-- What it holds.
abbrev pub holds : {A B H K : Type 0} → (A → H) → (B → K) → OneOf A B → H ⊎ K
holds f g (First a) = inl (f a)
holds f g (Second b) = inr (g b)

-- What is made of what it holds.
abbrev pub changed : {H K : Type 0} → (H → H) → (K → K) → H ⊎ K → H ⊎ K
changed f g (inl h) = inl (f h)
changed f g (inr k) = inr (g k)

-- What is answered by what it holds.
abbrev pub answered : {H K A : Type 0} → (H → A) → (K → A) → H ⊎ K → A
answered f g (inl h) = f h
answered f g (inr k) = g k

abbrev pub either_order : {H K : Type 0} → OrderMeaning H → OrderMeaning K → OrderMeaning (H ⊎ K)
either_order o p = record {
  group = λ h ms. answered (λ x. o.group x ms) (λ y. p.group y ms) h;
  grouped = λ h ms. changed (λ x. o.grouped x ms) (λ y. p.grouped y ms) h;
  channel = λ h ms g. answered (λ x. o.channel x ms g) (λ y. p.channel y ms g) h;
  channeled = λ h ms g. changed (λ x. o.channeled x ms g) (λ y. p.channeled y ms g) h;
  heard = λ h g. changed (λ x. o.heard x g) (λ y. p.heard y g) h;
}

abbrev pub either_policy : {H K : Type 0} → PolicyMeaning H → PolicyMeaning K → PolicyMeaning (H ⊎ K)
either_policy p q = record { cutoff = λ h. answered p.cutoff q.cutoff h; next = λ h. changed p.next q.next h }

-- It is lawful where both makes are.
module _ {H K : Type 0} (o : OrderMeaning H) (p : OrderMeaning K) (of : Lawful o) (pf : Lawful p) where
  branches : (h : H ⊎ K) (ms : List ℕ) → Domains ms → Branches ms ((either_order o p).group h ms)
  branches (inl x) ms d = of.branches x ms d
  branches (inr y) ms d = pf.branches y ms d

  remains : (h : H ⊎ K) (ms : List ℕ) (g : ℕ) → Domains ms → Remains ms g ((either_order o p).channel h ms g)
  remains (inl x) ms g d = of.remains x ms g d
  remains (inr y) ms g d = pf.remains y ms g d

  pub either_lawful : Lawful (either_order o p)
  either_lawful = record { branches = branches; remains = remains }

module _ {H K : Type 0} (p : PolicyMeaning H) (q : PolicyMeaning K) (pf : LawfulPolicy p) (qf : LawfulPolicy q) where
  positive : (h : H ⊎ K) → 1 ≤ (either_policy p q).cutoff h
  positive (inl x) = pf.positive x
  positive (inr y) = qf.positive y

  pub either_lawful_policy : LawfulPolicy (either_policy p q)
  either_lawful_policy = record { positive = positive }
