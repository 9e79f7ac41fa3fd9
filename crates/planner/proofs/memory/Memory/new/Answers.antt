use Rattle.std.proofs.Common.{rules, ◌≡◌, ℕ, Bool, replicate, false, vec_len, refl, sym, ap, ◌∙◌}
use Rattle.propagation.specs.declared.records.RuleEnd.{RuleEnd}
use Rattle.planner.proofs.memory.Memory.new.Goals as goal

end_same : (n m : ℕ) (a b : Bool) → n ≡ m → a ≡ b → ◌≡◌ {A = RuleEnd} (record { rule = n; second = a }) (record { rule = m; second = b })
end_same n m a b e f = rw (e, f) refl

pub returns-clause-zeros : goal.returns-clause-zeros
returns-clause-zeros c =
    let marks = c.in_ok-vec-5.ensures.items_if_clones_equal (λ y same. same) in
    let ends = c.in_ok-vec-6.ensures.items_if_clones_equal (λ y same. same) in
    let none : c.default.result ≡ record { rule = 0; second = false } = end_same _ _ _ _ c.default.ensures.0 c.default.ensures.1 in
    record {
      domains = search rules;
      branch = search rules;
      plan = search rules;
      base = search rules;
      marks = marks ∙ ap (λ (n : ℕ). replicate n 0) (sym c.in_ok-vec-5.ensures.len);
      ends = ends ∙ ap (λ (n : ℕ). replicate n c.default.result) (sym c.in_ok-vec-6.ensures.len) ∙ ap (λ (x : RuleEnd). replicate (vec_len c.in_ok-vec-6.field-0) x) none;
      settled = search rules;
    }
