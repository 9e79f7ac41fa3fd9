-- The base part by part. Assumes nothing.
use Rattle.std.proofs.Common.{◌≡◌, ℕ, ◌/◌, false, ◌≢◌, List, [], ◌∷◌, ◌++◌, sym, ◌∙◌, subst}
use Rattle.std.specs.List.{AllByRecursion}
use Rattle.std.proofs.lemmas.List.{append_assoc}
use Rattle.std.proofs.ByRecursion.{All-weaker}
use Rattle.rules.specs.Meanings.{Meaning}
use Rattle.model.specs.Remains.{family, Only, Gone}
use Rattle.model.proofs.Tests.{refuted}
use Rattle.std.proofs.lemmas.Bool.{both_ways}
use Rattle.propagation.specs.Waiting.{queued}
use Rattle.propagation.specs.Settling.{noted}
use Rattle.propagation.specs.declared.desk.Desk.{Desk}
use Rattle.propagation.specs.Desks.{Step}
use Rattle.propagation.specs.Bases.{Good}

pub all_mid : {X : Type 0} (P : X → Type 0) (xs ys : List X) (z : X) (zs : List X) → xs ≡ ys ++ z ∷ zs → AllByRecursion P xs → P z
all_mid P xs ys z zs e a = go ys (subst (λ (x : List _). AllByRecursion P x) e a)
  where
    go : (ys : List _) → AllByRecursion P (ys ++ z ∷ zs) → P z
    go [] b = b.0
    go (y ∷ ys) b = go ys b.1

pub all_join : {X : Type 0} (P Q R : X → Type 0) → ((x : X) → P x → Q x → R x) → (xs : List X) → AllByRecursion P xs → AllByRecursion Q xs → AllByRecursion R xs
all_join P Q R f [] a b = tt
all_join P Q R f (x ∷ xs) a b = (f x a.0 b.0, all_join P Q R f xs a.1 b.1)

-- a step keeps nogoods good
pub good_step : (m : Meaning) {B : Type 0} (d e : Desk B) → Step m d e → (n : List ℕ) → Good d.domains.now (queued d.settled) n → Good e.domains.now (queued e.settled) n
good_step m d e s n good quiet =
    let before = All-weaker (λ v. noted (queued e.settled) v ≡ false) (λ v. noted (queued d.settled) v ≡ false) (λ v h. (s.assignments v h).0) n quiet in
    All-weaker (λ w. AllByRecursion (λ v. v ≢ w → Only (family d.domains.now) v) n → Gone (family d.domains.now) w) (λ w. AllByRecursion (λ v. v ≢ w → Only (family e.domains.now) v) n → Gone (family e.domains.now) w)
    (λ w h f. let g = h (all_join (λ v. noted (queued e.settled) v ≡ false) (λ v. v ≢ w → Only (family e.domains.now) v) (λ v. v ≢ w → Only (family d.domains.now) v) (λ v q o x. (s.assignments v q).1 (o x)) n quiet f) in
    refuted (family e.domains.now (w / 64) _) (λ x. both_ways (family d.domains.now (w / 64) _) g (s.inside (w / 64) _ x)))
    n (good before)

-- one more part
pub parts_more : (all done : List (List ℕ)) (part : List ℕ) (rest : List (List ℕ)) → all ≡ done ++ part ∷ rest → all ≡ (done ++ part ∷ []) ++ rest
parts_more all done part rest e = e ∙ sym (append_assoc done (part ∷ []) rest)
