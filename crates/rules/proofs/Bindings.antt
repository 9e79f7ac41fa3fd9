-- A rule that has ends binds.
use Rattle.std.proofs.Common.{◌≡◌, ℕ, ◌<◌, IfSome, Some, None, sym, ◌∙◌, subst, inl, inr, arith}
use Rattle.std.proofs.lemmas.Bool.{cases_lt}
use Rattle.rules.specs.Meanings.{Meaning, Lawful, Apart, Binding}

some_none : {X : Type 0} (x : X) → Some x ≡ None → ⊥
some_none x e = let z : ◌≡◌ {A = ℕ} 0 1 = cc in omega arith

pub binding : (m : Meaning) → Lawful m → (i g h : ℕ) → m.ends i ≡ Some (g, h) → Binding m i g h
binding m law i g h e =
    let a : Apart m.groups (g, h) = subst (λ o. IfSome o (Apart m.groups)) e (law.apart i) in
    let l : i < m.count = elim (cases_lt i m.count) [ inl l ↦ l | inr n ↦ absurd (some_none (g, h) (sym e ∙ law.past i n)) ] in
    record { counted = l; first = a.0; second = a.1; apart = a.2 }
