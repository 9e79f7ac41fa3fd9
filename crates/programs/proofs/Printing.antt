-- From a reply to the bytes that were read to what is printed of those on the input.
use Rattle.std.proofs.Common.{◌≡◌, ℕ, ◌<◌, ◌≤◌, List, [], length, take, Some, None, Option, Ok, Err, Result, MatchResult, IfSome, IsErr, OnOk, OnErr, refl, sym, ◌∙◌, subst, arith, inl, inr}
use Rattle.std.proofs.lemmas.Bool.{cases_lt}
use Rattle.std.proofs.lemmas.List.{length-take-le, take_all}
use Rattle.std.specs.Io.KnownBytes.{Keeps, Appends}
use Rattle.planner.specs.declared.solve.Settings.{Settings}
use Rattle.rules.specs.Refusals.{told}
use Rattle.rules.specs.declared.refusal.Refusal.TheVariants.{NoPlace}
use Rattle.planner.specs.declared.error.PlanError.{PlanError}
use Rattle.planner.specs.declared.error.PlanError.TheVariants.{Refused, NoMemory}
use Rattle.planner.specs.Answers.{Unanswered}
use Rattle.programs.specs.Printed.{refused_line, IsLineOf, Printed, too_long, faulty, past_limits, answered, IsOn, Writes}

module _ (settings : Settings) (Says : List ℕ → List ℕ → Type 0) where
  cut_long : (bytes text : List ℕ) → 65537 < length bytes → Printed settings Says (take 65537 bytes) text → Printed settings Says bytes text
  cut_long bytes text h (too_long l) = too_long (omega (arith, h))
  cut_long bytes text h (faulty l f) = absurd (omega (arith, l, h, length-take-le 65537 bytes (omega (arith, h))))
  cut_long bytes text h (past_limits l i a e) = absurd (omega (arith, l, h, length-take-le 65537 bytes (omega (arith, h))))
  cut_long bytes text h (answered l s) = absurd (omega (arith, l, h, length-take-le 65537 bytes (omega (arith, h))))

  -- The front that is read decides what is printed.
  pub cut : (bytes text : List ℕ) → Printed settings Says (take 65537 bytes) text → Printed settings Says bytes text
  cut bytes text p = elim (cases_lt 65537 (length bytes)) as (λ _. Printed settings Says bytes text) [
    | inl h ↦ cut_long bytes text h p
    | inr h ↦ subst (λ (bs : List ℕ). Printed settings Says bs text) (take_all 65537 bytes h) p
  ]

  module _ {A : Type 0} (text : A → List ℕ) (bytes : List ℕ) where
    -- what a reply to bytes that are no longer than a job may be is printed as
    short_reply : (r : Result A PlanError) → length bytes ≤ 65536 → MatchResult r (λ a. Says bytes (text a)) (Unanswered bytes settings) → (t : List ℕ) → IsLineOf (λ a. Some (text a)) r t → Printed settings Says bytes t
    short_reply (Ok a) h s t l = subst (λ (z : List ℕ). Printed settings Says bytes z) (sym l) (answered h s)
    short_reply (Err (Refused e)) h s t l = subst (λ (z : List ℕ). Printed settings Says bytes z) (sym l) (elim s as (λ _. Printed settings Says bytes (refused_line (told e).0 (told e).1)) [
      | inl u ↦ subst (λ (q : ℕ × ℕ). Printed settings Says bytes (refused_line q.0 q.1)) (sym u.2) (faulty h u.1)
      | inr u ↦ past_limits h u.0.0 u.0.1 u.1
    ])
    short_reply (Err NoMemory) h s t l = absurd l

    -- and a reply to any bytes
    pub reply_printed : (r : Result A PlanError) → (65536 < length bytes → r ≡ Err (Refused (NoPlace 65536))) → (length bytes ≤ 65536 → MatchResult r (λ a. Says bytes (text a)) (Unanswered bytes settings)) → (t : List ℕ) → IsLineOf (λ a. Some (text a)) r t → Printed settings Says bytes t
    reply_printed r long short t l = elim (cases_lt 65536 (length bytes)) as (λ _. Printed settings Says bytes t) [
      | inl h ↦ subst (λ (z : List ℕ). Printed settings Says bytes z) (sym (subst (λ (x : Result A PlanError). IsLineOf (λ a. Some (text a)) x t) (long h) l)) (too_long h)
      | inr h ↦ short_reply r h (short h) t l
    ]

kept_same : (known : Option (List ℕ)) → Keeps known known
kept_same None = tt
kept_same (Some bs) = refl

module _ (P : List ℕ → List ℕ → Type 0) where
  unwritten_of : {A E : Type 0} (known : Option (List ℕ)) (r : Result A E) → IsErr r → (bytes : List ℕ) → Writes (P bytes) known known r
  unwritten_of known (Ok x) e bytes = absurd (let z : ⊥ = cc in z)
  unwritten_of known (Err x) e bytes = inl (kept_same known)

  -- Where it fails before a text is there, nothing is written.
  pub unwritten : {A E : Type 0} (known old : Option (List ℕ)) (r : Result A E) → IsErr r → (bytes : List ℕ) × IsOn known bytes × Writes (P bytes) old old r
  unwritten None old r e = ([], tt, unwritten_of old r e [])
  unwritten (Some bs) old r e = (bs, refl, unwritten_of old r e bs)

  written_of : {A E : Type 0} (old new : Option (List ℕ)) (bytes text : List ℕ) (r : Result A E) → P bytes text → OnOk r (Appends old new text) → OnErr r ((n : ℕ) × Appends old new (take n text)) → Writes (P bytes) old new r
  written_of old new bytes text (Ok x) p a f = (text, p, a)
  written_of old new bytes text (Err x) p a f = inr (text, p, f)

  -- The text is written, or a front of it.
  pub written : {A E : Type 0} (known old new : Option (List ℕ)) (read job text passed : List ℕ) (r : Result A E) → IfSome known (λ bs. read ≡ take 65537 bs) → job ≡ read → passed ≡ text
      → ((bytes : List ℕ) → P (take 65537 bytes) text → P bytes text) → P job text → OnOk r (Appends old new passed) → OnErr r ((n : ℕ) × Appends old new (take n passed))
      → (bytes : List ℕ) × IsOn known bytes × Writes (P bytes) old new r
  written None old new read job text passed r k e d cut p a f = (job, tt, subst (λ (z : List ℕ). OnOk r (Appends old new z) → OnErr r ((n : ℕ) × Appends old new (take n z)) → Writes (P job) old new r) (sym d) (written_of old new job text r p) a f)
  written (Some bs) old new read job text passed r k e d cut p a f =
      let q : P bs text = cut bs (subst (λ (z : List ℕ). P z text) (e ∙ k) p) in
      (bs, refl, subst (λ (z : List ℕ). OnOk r (Appends old new z) → OnErr r ((n : ℕ) × Appends old new (take n z)) → Writes (P bs) old new r) (sym d) (written_of old new bs text r q) a f)
