-- What a table adds to a draft.
use Rattle.std.proofs.Common.{◌≡◌, ℕ, List, Option, refl, sym, ap, ◌∙◌, Result, Ok, Err, MatchResult, IsErrAnd, inl, inr}
use Rattle.jobs.specs.declared.item.Item.{Item}
use Rattle.text.specs.declared.fault.Lack.{Lack}
use Rattle.text.specs.declared.fault.Wrong.{Wrong}
use Rattle.text.specs.declared.fault.Wrong.TheVariants.{Lacks}
use Rattle.text.specs.declared.line.Line.{Line}
use Rattle.text.specs.Words.{missing}
use Rattle.text.specs.Lines.{Told, told, IsLine}
use Rattle.text.specs.Drafts.{Made, Adding, Takes, Refuses, no_item, no_memory, not_added}

abbrev pub make : List Item → List ℕ → Option ℕ → Made
make xs rs g = record { items = xs; rows = rs; given = g }

pub same_made : (xs ys : List Item) (rs ss : List ℕ) (g : Option ℕ) → xs ≡ ys → rs ≡ ss → make xs rs g ≡ make ys ss g
same_made xs ys rs ss g e f = rw (e, f) refl

-- adding what a line says takes the line in, or refuses it
pub add_is : (m : Made) (w s : List ℕ) (l : Line) (r : Result (Unit {0}) Wrong) (n : Made) → s ≡ w → (t : Told) × (told s ≡ Ok t) × IsLine t l → Adding m l r n → MatchResult r (λ _. Takes m w n) (λ x. Refuses m w x)
add_is m w s l (Ok u) n e t a = record { says = t.0; line = l; said = ap told (sym e) ∙ t.1; means = t.2; fits = a.0; adds = a.1 }
add_is m w s l (Err x) n e t a = elim a as (λ _. Refuses m w x) [ inl h ↦ no_memory t.0 l (ap told (sym e) ∙ t.1) t.2 h | inr h ↦ not_added t.0 l (ap told (sym e) ∙ t.1) t.2 h.0 ]

-- a line that misses something is refused for it
pub lacks_is : (m : Made) (w s : List ℕ) (l : Lack) (r : Result (Unit {0}) Wrong) (n : Made) → s ≡ w → told s ≡ Err (missing l) → IsErrAnd r (λ x. x ≡ Lacks l) → MatchResult r (λ _. Takes m w n) (λ x. Refuses m w x)
lacks_is m w s l (Ok u) n e f g = absurd g
lacks_is m w s l (Err x) n e f g = no_item l (ap told (sym e) ∙ f) g
