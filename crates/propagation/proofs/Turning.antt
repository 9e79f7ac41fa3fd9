-- One turn of the work. Assumes nothing.
use Rattle.std.proofs.Common.{◌≡◌, ℕ, ◌+◌, ◌*◌, ◌<◌, ◌≤◌, Bool, true, false, ◌≢◌, ◌⊎◌, List, [], ◌∷◌, length, sum, sym, refl, ap, ◌∙◌, subst, inl, inr, mul-le-mul_right, add-mul, one-mul, arith}
use Rattle.std.specs.List.{AllByRecursion}
use Rattle.std.proofs.ByRecursion.{All-weaker}
use Rattle.std.proofs.lemmas.Bool.{cases_eq, or_right, or_from, ne_eqb}
use Rattle.rules.specs.Meanings.{Meaning}
use Rattle.model.specs.Remains.{Family, family, Heeds}
use Rattle.model.proofs.Tests.{of_all}
use Rattle.propagation.specs.declared.records.RuleEnd.{RuleEnd}
use Rattle.propagation.specs.declared.records.Assignment.{Assignment}
use Rattle.propagation.specs.Waits.{at_end, place, waits}
use Rattle.propagation.specs.Waiting.{queued}
use Rattle.propagation.specs.Supports.{Supported}
use Rattle.propagation.specs.Settling.{noted, Settled}
use Rattle.propagation.specs.declared.desk.Desk.{Desk}
use Rattle.propagation.specs.Desks.{Held, Step}
use Rattle.propagation.specs.Bases.{Good, Spared}
use Rattle.propagation.specs.Calms.{Calm, Agrees, weight}
use Rattle.propagation.proofs.Marks.{line_few}
use Rattle.propagation.proofs.Groups.{stands_few}
use Rattle.propagation.proofs.Walking.{all_join}

-- the line of assignments without its first
pub settled_rest : (ms : List ℕ) (f : Assignment) (s : List Assignment) → Settled ms (f ∷ s) → Settled ms s
settled_rest ms f s st = record {
  alone = st.alone.1;
  below = λ g h. st.below g (or_right _ _ h);
  narrow = λ g h. st.narrow g (or_right _ _ h);
}

-- what waits is bounded
waiting_few : (m : Meaning) {B : Type 0} (d : Desk B) → Held m d → length (queued d.line.ends) + length (queued d.settled) ≤ 2 * m.count + m.groups
waiting_few m d h =
    let a = line_few (queued d.line.ends) (2 * m.count) d.line.line.once (λ e w. let k = d.line.line.below e w in omega (arith, h.fits.rules)) in
    let b = stands_few (queued d.settled) (length d.domains.now) h.settled.alone h.settled.below in
    omega (arith, a, b, h.fits.groups)

heavier : (a b k p q : ℕ) → a < b → p < k → a * k + p < b * k + q
heavier a b k p q l h =
    let e : (a + 1) * k ≡ a * k + k = add-mul a 1 k ∙ ap (λ (x : ℕ). a * k + x) (one-mul k) in
    let u : a + 1 ≤ b = omega arith in
    let f : (a + 1) * k ≤ b * k = mul-le-mul_right k u in
    omega arith

pub weight_falls : (m : Meaning) {B : Type 0} (d e f : Desk B) → Held m f → Step m e f → e.domains.now ≡ d.domains.now → length (queued e.line.ends) + length (queued e.settled) < length (queued d.line.ends) + length (queued d.settled) → weight m f < weight m d
weight_falls m d e f h s q l = go s.falls
  where
    go : ((f.domains.now ≡ e.domains.now) × ((queued f.line.ends) ≡ (queued e.line.ends)) × ((queued f.settled) ≡ (queued e.settled))) ⊎ (sum f.domains.now < sum e.domains.now) → weight m f < weight m d
    go (inl p) =
        let x : sum f.domains.now * (2 * m.count + m.groups + 1) ≡ sum d.domains.now * (2 * m.count + m.groups + 1) = ap (λ (y : List ℕ). sum y * (2 * m.count + m.groups + 1)) (p.0 ∙ q) in
        let y = ap length p.1 in
        let z = ap length p.2 in
        omega arith
    go (inr p) =
        let w = waiting_few m f h in
        let z = ap sum q in
        heavier (sum f.domains.now) (sum d.domains.now) (2 * m.count + m.groups + 1) (length (queued f.line.ends) + length (queued f.settled)) (length (queued d.line.ends) + length (queued d.settled)) (omega arith) (omega arith)

-- calm after a step
pub calm_step : (m : Meaning) {B : Type 0} (d e : Desk B) → Step m d e → Calm m d.domains.now (queued d.line.ends) → Calm m e.domains.now (queued e.line.ends)
calm_step m d e s c i b h = let u = s.ends i b h in u.1 (c i b u.0)

-- the end that a number stands for
pub same_end : (i j : ℕ) (s t : Bool) → at_end i s ≡ at_end j t → (i ≡ j) × (s ≡ t)
same_end i j true true h = (omega arith, refl)
same_end i j false false h = (omega arith, refl)
same_end i j true false h = absurd (omega arith)
same_end i j false true h = absurd (omega arith)

-- calm after the first end was looked at, and a step
pub calm_looked : (m : Meaning) {B : Type 0} (d e : Desk B) (r : RuleEnd) → Step m d e → Calm m d.domains.now (r ∷ (queued d.line.ends)) → Supported m (family e.domains.now) r.rule r.second → Calm m e.domains.now (queued e.line.ends)
calm_looked m d e r s c done i b h = go (cases_eq (at_end i b) (place r))
  where
    go : (at_end i b ≡ place r) ⊎ (at_end i b ≡ place r → ⊥) → Supported m (family e.domains.now) i b
    go (inl q) =
        let t = same_end i r.rule b r.second q in
        subst (λ (x : Bool). Supported m (family e.domains.now) i x) (sym t.1) (subst (λ (x : ℕ). Supported m (family e.domains.now) x r.second) (sym t.0) done)
    go (inr n) = let u = s.ends i b h in u.1 (c i b (or_from _ _ (ne_eqb (place r) (at_end i b) (λ q. n (sym q))) u.0))

-- where nothing waits
pub all_done : (m : Meaning) (base : List (List ℕ)) (ms : List ℕ) (q : List RuleEnd) (s : List Assignment) → q ≡ [] → s ≡ [] → Calm m ms q → AllByRecursion (Good ms s) base → Agrees m base (family ms)
all_done m base ms q s eq es c g = record {
  supported = λ i b. c i b (ap (λ (x : List RuleEnd). waits x (at_end i b)) eq);
  heeds = All-weaker (Good ms s) (Heeds (family ms)) (λ n h. h (of_all (λ v. noted s v ≡ false) (λ v. ap (λ (x : List Assignment). noted x v) es) n)) base g;
}

pub settled_from : (ms : List ℕ) (p s : List Assignment) (f : Assignment) → p ≡ f ∷ s → Settled ms p → Settled ms s
settled_from ms p s f e st = settled_rest ms f s (subst (λ (x : List Assignment). Settled ms x) e st)

-- a nogood without the assignment that was taken out of line is as good as before
pub spare : (ms : List ℕ) (p s : List Assignment) (f : Assignment) (v : ℕ) → p ≡ f ∷ s → v ≡ 64 * f.group + f.channel → (base : List (List ℕ)) → AllByRecursion (Good ms p) base → AllByRecursion (λ n. Spared v n → Good ms s n) base
spare ms p s f v e ev base a = All-weaker (Good ms p) (λ n. Spared v n → Good ms s n) one base a
  where
    one : (n : List ℕ) → Good ms p n → Spared v n → Good ms s n
    one n good sp quiet = good (subst (λ (x : List Assignment). AllByRecursion (λ w. noted x w ≡ false) n) (sym e)
        (all_join (λ x. x ≢ v) (λ w. noted s w ≡ false) (λ w. noted (f ∷ s) w ≡ false) (λ x d h. or_from _ _ (ne_eqb (64 * f.group + f.channel) x (λ q. d (sym (ev ∙ q)))) h) n sp quiet))

-- a book and a base by other names
pub agrees_same : (m m' : Meaning) (b b' : List (List ℕ)) (k : Family) → m' ≡ m → b' ≡ b → Agrees m b k → Agrees m' b' k
agrees_same m m' b b' k e f a = subst (λ (x : Meaning). Agrees x b' k) (sym e) (subst (λ (x : List (List ℕ)). Agrees m x k) (sym f) a)
