-- What lines build has no flaw for the writer of jobs.
use Rattle.std.proofs.Common.{◌≡◌, ℕ, zero, suc, ◌+◌, ◌-◌, ◌*◌, ◌<◌, ◌≤◌, List, [], ◌∷◌, ◌++◌, length, replicate, Some, None, Option, refl, sym, ◌∙◌, ap, subst, arith, nat_lt, length-append, cond, slice_index_or}
use Rattle.std.proofs.lemmas.Bool.Decides.{nat_tests}
use Rattle.std.proofs.lemmas.List.{length-drop, length-take-le, length-replicate}
use Rattle.std.specs.Int.{to_be_bytes, w64}
use Rattle.jobs.specs.declared.item.Item.{Item}
use Rattle.jobs.specs.declared.item.Item.TheVariants.{Counts, Channels, Near, Rows}
use Rattle.jobs.specs.Writes.{Flawless, flaw, nth_item}
use Rattle.text.specs.declared.line.Line.{Line}
use Rattle.text.specs.declared.line.Line.TheVariants.{Blank, Group, Gap, Table, Row}
use Rattle.text.specs.declared.fault.Wrong.TheVariants.{TooMany}
use Rattle.text.specs.Drafts.{Made, nothing, with_item, replaced, with_row, row_added, added, full, row_wrong, wrong, Builds}

-- an item whose rows stand in n bytes
abbrev pub Fits : ℕ → Item → Type 0
Fits n (Counts g r) = ⊥
Fits n (Channels l) = Unit {0}
Fits n (Near e) = Unit {0}
Fits n (Rows e) = e.offset + 512 ≤ n

abbrev pub AllFit : ℕ → List Item → Type 0
AllFit n [] = Unit {0}
AllFit n (x ∷ xs) = Fits n x × AllFit n xs

wider : (n m : ℕ) (x : Item) → n ≤ m → Fits n x → Fits m x
wider n m (Counts g r) h f = f
wider n m (Channels l) h f = f
wider n m (Near e) h f = f
wider n m (Rows e) h f = omega (arith, h, f)

all_wider : (n m : ℕ) (xs : List Item) → n ≤ m → AllFit n xs → AllFit m xs
all_wider n m [] h f = tt
all_wider n m (x ∷ xs) h f = (wider n m x h f.0, all_wider n m xs h f.1)

all_push : (n : ℕ) (xs : List Item) (x : Item) → AllFit n xs → Fits n x → AllFit n (xs ++ (x ∷ []))
all_push n [] x f g = (g, tt)
all_push n (y ∷ xs) x f g = (f.0, all_push n xs x f.1 g)

fit_at : (n : ℕ) (xs : List Item) (k : ℕ) → k < length xs → AllFit n xs → Fits n (slice_index_or xs k (Counts 0 0))
fit_at n [] k h f = absurd (omega (arith, h))
fit_at n (x ∷ xs) zero h f = f.0
fit_at n (x ∷ xs) (suc k) h f = fit_at n xs k (omega (arith, h)) f.1

no_flaw : (rows : List ℕ) (k : ℕ) (x : Item) → Fits (length rows) x → flaw rows k x ≡ None
no_flaw rows k (Counts g r) f = absurd f
no_flaw rows k (Channels l) f = refl
no_flaw rows k (Near e) f = refl
no_flaw rows k (Rows e) f = grind (arith, nat_tests)

pub record Sound (m : Made) : Type 0 where
  pub few : length m.items ≤ 65535
  pub each : AllFit (length m.rows) m.items
  pub table : (g : ℕ) → m.given ≡ Some g → 512 ≤ length m.rows

pub nothing_sound : Sound nothing
nothing_sound = record { few = omega arith; each = tt; table = λ g e. absurd (let z : ⊥ = cc in z) }

not_full : (n : ℕ) → cond (nat_lt n 65535) None (Some TooMany) ≡ None → n < 65535
not_full n h = grind (arith, nat_tests)

plain_sound : (m : Made) (x : Item) → Fits (length m.rows) x → full m ≡ None → Sound m → Sound (with_item m x None)
plain_sound m x f h s = record {
  few = omega (arith, not_full (length m.items) h, length-append m.items (x ∷ []));
  each = all_push (length m.rows) m.items x s.each f;
  table = λ g e. absurd (let z : ⊥ = cc in z);
}

length-replaced : (bs : List ℕ) (at : ℕ) (new : List ℕ) → at + length new ≤ length bs → length (replaced bs at new) ≡ length bs
length-replaced bs at new h = simp (length-append, length-drop) (omega (arith, length-take-le at bs (omega (arith, h)), h))

row_low : (g c : ℕ) → row_wrong (Some g) c ≡ None → c < 64
row_low g c h = grind (arith, nat_tests)

row_sound : (m : Made) (o : Option ℕ) (c l : ℕ) → m.given ≡ o → row_wrong o c ≡ None → Sound m → Sound (row_added o m c l)
row_sound m None c l e h s = s
row_sound m (Some g) c l e h s =
    let long = s.table g e in
    let low = row_low g c h in
    let eight : length (to_be_bytes w64 l) ≡ 8 = refl in
    let same : length (with_row m g c l).rows ≡ length m.rows = length-replaced m.rows (length m.rows - 512 + 8 * c) (to_be_bytes w64 l) (omega (arith, long, low, eight)) in
    record {
      few = s.few;
      each = all_wider (length m.rows) (length (with_row m g c l).rows) m.items (omega (arith, same)) s.each;
      table = λ k d. omega (arith, same, long);
    }

table_sound : (m : Made) (a b : ℕ) → full m ≡ None → Sound m → Sound (added m (Table a b))
table_sound m a b h s =
    let x : Item = Rows (record { first = a; second = b; offset = length m.rows }) in
    let longer : length (m.rows ++ replicate 512 0) ≡ length m.rows + 512 = length-append m.rows (replicate 512 0) ∙ ap (λ n. length m.rows + n) (length-replicate {A = ℕ} 512 0) in
    record {
      few = omega (arith, not_full (length m.items) h, length-append m.items (x ∷ []));
      each = all_push (length (m.rows ++ replicate 512 0)) m.items x (all_wider (length m.rows) (length (m.rows ++ replicate 512 0)) m.items (omega (arith, longer)) s.each) (omega (arith, longer));
      table = λ k d. omega (arith, longer);
    }

sound_added : (m : Made) (l : Line) → wrong m l ≡ None → Sound m → Sound (added m l)
sound_added m Blank h s = s
sound_added m (Group l) h s = plain_sound m (Channels l) tt h s
sound_added m (Gap e) h s = plain_sound m (Near e) tt h s
sound_added m (Table a b) h s = table_sound m a b h s
sound_added m (Row c l) h s = row_sound m m.given c l refl h s

pub sound_built : (m : Made) (ws : List (List ℕ)) (n : Made) → Builds m ws n → Sound m → Sound n
sound_built m [] n b s = subst Sound (sym b) s
sound_built m (w ∷ ws) n b s = sound_built b.0 ws n b.2 (subst Sound (sym b.1.adds) (sound_added m b.1.line b.1.fits s))

pub flawless : (m : Made) → Sound m → Flawless m.rows m.items
flawless m s = record { few = s.few; each = λ k h. no_flaw m.rows k (nth_item m.items k) (fit_at (length m.rows) m.items k h s.each) }

pub built_flawless : (ws : List (List ℕ)) (m : Made) → Builds nothing ws m → Flawless m.rows m.items
built_flawless ws m b = flawless m (sound_built nothing ws m b nothing_sound)
