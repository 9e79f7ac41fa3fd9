-- What an entry of a list makes of its rule.
use Rattle.std.proofs.Common.{◌≡◌, ℕ, ◌+◌, ◌-◌, ◌<◌, ◌≤◌, min, Bool, true, false, ◌&&◌, ltb, leb, List, length, get_or, is_some, Some, None, Decides, Option, sym, refl, ap, ◌∙◌, subst, ⊎_elim, arith}
use Rattle.std.proofs.lemmas.Bool.{cond-true, cond-false, cond_both, and_from, and_left, and_right, or_cases, or_left, or_right, lt-ltb, le-ltb, le-leb, lt-leb, leb-true, eq-eqb, eqb-true, ne_eqb, not_from_true, not_from_false, cases_lt}
use Rattle.rules.specs.Channels.{has, Has}
use Rattle.rules.specs.Gaps.{gaps, gaps_lawful, gapped, no_gap}
use Rattle.rules.specs.Joins.{after}
use Rattle.rules.specs.Laws.{Differ, Blank, Permits, GapLaws, TableLaws, GapBooks, TableBooks, JoinedBooks}
use Rattle.rules.specs.Meanings.{Meaning, Lawful, Apart, sound, listed_ends, most}
use Rattle.rules.specs.Tables.{tables, tables_lawful, no_table, row}
use Rattle.rules.specs.declared.gap.GapEntry.{GapEntry}
use Rattle.rules.specs.declared.table.TableEntry.{TableEntry}
use Rattle.rules.proofs.Apart.{wide_spread}

pub sound_some : (n : ℕ) (e : ℕ × ℕ) → Apart n e → sound n e ≡ Some e
sound_some n e a =
    cond-true _ _ _ (and_from _ _ (lt-ltb e.0 n a.0) (and_from _ _ (lt-ltb e.1 n a.1) (not_from_false _ (ne_eqb e.0 e.1 a.2))))

sound_equal : (n : ℕ) (e : ℕ × ℕ) → e.0 ≡ e.1 → sound n e ≡ None
sound_equal n e h = cond-false _ _ _ (and_right (ltb e.0 n) _ (and_right (ltb e.1 n) _ (not_from_true _ (eq-eqb e.0 e.1 h))))

sound_first : (n : ℕ) (e : ℕ × ℕ) → n ≤ e.0 → sound n e ≡ None
sound_first n e h = cond-false _ _ _ (and_left _ _ (le-ltb e.0 n h))

sound_second : (n : ℕ) (e : ℕ × ℕ) → n ≤ e.1 → sound n e ≡ None
sound_second n e h = cond-false _ _ _ (and_right (ltb e.0 n) _ (and_left _ _ (le-ltb e.1 n h)))

module _ (n len : ℕ) (pair : ℕ → ℕ × ℕ) (whole : ℕ → Bool) where
  pub listed_some : (i : ℕ) → i < min len most → whole i ≡ true → Apart n (pair i) → listed_ends n len pair whole i ≡ Some (pair i)
  listed_some i h w a = cond-true _ _ _ (and_from _ _ (lt-ltb i (min len most) h) w) ∙ sound_some n (pair i) a

  listed_none : (i : ℕ) → sound n (pair i) ≡ None → listed_ends n len pair whole i ≡ None
  listed_none i h = cond_both (ltb i (min len most) && whole i) (sound n (pair i)) None (λ o. o ≡ None) (λ _. h) (λ _. refl)

  listed_part : (i : ℕ) → whole i ≡ false → listed_ends n len pair whole i ≡ None
  listed_part i h = cond-false _ _ _ (and_right (ltb i (min len most)) _ h)

-- what is left of a permission once the entry binds
allowed : (o : Option (ℕ × ℕ)) (p : ℕ × ℕ) (a b : ℕ) (r : Bool) → o ≡ Some p → a < 64 → b < 64 → (is_some o && (ltb a 64 && (ltb b 64 && r))) ≡ r
allowed o p a b r e k l =
    ap (λ x. is_some x && (ltb a 64 && (ltb b 64 && r))) e
    ∙ (ap (λ t. t && (ltb b 64 && r)) (lt-ltb a 64 k) ∙ ap (λ t. t && r) (lt-ltb b 64 l))

blank : (m : Meaning) (i : ℕ) → Lawful m → m.ends i ≡ None → Blank m i
blank m i law e = record { ends = e; permits = λ a b. law.blank i a b e }

differ : (g a b : ℕ) → Decides (gapped g a b) (Differ g a b)
differ g a b = (
  (λ e. ⊎_elim (λ h. omega (arith, leb-true (a + g) b h)) (λ h. omega (arith, leb-true (b + g) a h)) (or_cases (leb (a + g) b) (leb (b + g) a) e)),
  (λ h. ⊎_elim (λ l. or_left (leb (a + g) b) (leb (b + g) a) (le-leb (a + g) b (omega arith)))
      (λ l. or_right (leb (a + g) b) (leb (b + g) a) (le-leb (b + g) a (omega arith))) (cases_lt a b)),
)

module _ (n : ℕ) (es : List GapEntry) where
  abbrev groups_of : ℕ → ℕ × ℕ
  groups_of i = ((get_or es i no_gap).first, (get_or es i no_gap).second)

  gap_ends : (i : ℕ) → i < min (length es) most → Apart n (groups_of i) → (gaps n es).ends i ≡ Some (groups_of i)
  gap_ends i h a = listed_some n (length es) groups_of (λ _. true) i h refl a

  gap_permits : (i a b : ℕ) → i < min (length es) most → Apart n (groups_of i) → a < 64 → b < 64 → (gaps n es).permits i a b ≡ gapped (get_or es i no_gap).gap a b
  gap_permits i a b h p k l = allowed ((gaps n es).ends i) (groups_of i) a b (gapped (get_or es i no_gap).gap a b) (gap_ends i h p) k l

  gap_blank : (i : ℕ) → sound n (groups_of i) ≡ None → Blank (gaps n es) i
  gap_blank i h = blank (gaps n es) i (gaps_lawful n es) (listed_none n (length es) groups_of (λ _. true) i h)

  gap_laws : GapLaws n es
  gap_laws = record {
    groups = refl;
    count = refl;
    binds = λ i h a. record {
      ends = gap_ends i h a;
      permits = λ x y k l. subst (λ r. Decides r (Differ (get_or es i no_gap).gap x y)) (sym (gap_permits i x y h a k l)) (differ (get_or es i no_gap).gap x y);
      high = (gaps_lawful n es).high i;
    };
    equal = λ i h. gap_blank i (sound_equal n (groups_of i) h);
    first = λ i h. gap_blank i (sound_first n (groups_of i) h);
    second = λ i h. gap_blank i (sound_second n (groups_of i) h);
    widest = λ i h a e.
        (gap_permits i 0 63 h a (omega arith) (omega arith) ∙ ap (λ g. gapped g 0 63) e, gap_permits i 0 62 h a (omega arith) (omega arith) ∙ ap (λ g. gapped g 0 62) e);
    spread = λ i s h a. wide_spread n es i (ap is_some (gap_ends i h a)) s;
    none = λ i x h a e l. gap_permits i x x h a l l ∙ (ap (λ g. gapped g x x) e ∙ or_left (leb (x + 0) x) (leb (x + 0) x) (le-leb (x + 0) x (omega arith)));
  }

module _ (n : ℕ) (bs : List ℕ) (es : List TableEntry) where
  abbrev ends_of : ℕ → ℕ × ℕ
  ends_of i = ((get_or es i no_table).first, (get_or es i no_table).second)

  abbrev in_job : ℕ → Bool
  in_job i = leb ((get_or es i no_table).offset + 512) (length bs)

  table_ends : (i : ℕ) → i < min (length es) most → Apart n (ends_of i) → (get_or es i no_table).offset + 512 ≤ length bs → (tables n bs es).ends i ≡ Some (ends_of i)
  table_ends i h a o = listed_some n (length es) ends_of in_job i h (le-leb _ _ o) a

  table_blank : (i : ℕ) → (tables n bs es).ends i ≡ None → Blank (tables n bs es) i
  table_blank i h = blank (tables n bs es) i (tables_lawful n bs es) h

  bit : (set c : ℕ) → Decides (has set c) (Has set c)
  bit set c = (λ e. eqb-true _ _ e, λ h. eq-eqb _ _ h)

  table_laws : TableLaws n bs es
  table_laws = record {
    groups = refl;
    count = refl;
    binds = λ i h a o. record {
      ends = table_ends i h a o;
      permits = λ x y k l. subst (λ r. Decides r (Has (row bs (get_or es i no_table).offset x) y))
          (sym (allowed ((tables n bs es).ends i) (ends_of i) x y (has (row bs (get_or es i no_table).offset x) y) (table_ends i h a o) k l))
          (bit (row bs (get_or es i no_table).offset x) y);
      high = (tables_lawful n bs es).high i;
    };
    equal = λ i h. table_blank i (listed_none n (length es) ends_of in_job i (sound_equal n (ends_of i) h));
    first = λ i h. table_blank i (listed_none n (length es) ends_of in_job i (sound_first n (ends_of i) h));
    second = λ i h. table_blank i (listed_none n (length es) ends_of in_job i (sound_second n (ends_of i) h));
    past = λ i h. table_blank i (listed_part n (length es) ends_of in_job i (lt-leb _ _ h));
  }

module _ {X : Type 0} (n : ℕ) (f s : ℕ → X) (d : X) where
  after_first : (i : ℕ) → i < n → after n f s d i ≡ f i
  after_first i h = cond-true _ _ _ (lt-ltb i n h)

  after_second : (i : ℕ) → n + i < most → after n f s d (n + i) ≡ s i
  after_second i h =
      let e : n + i - n ≡ i = omega arith in
      cond-false _ _ _ (le-ltb (n + i) n (omega arith)) ∙ (cond-true _ _ _ (lt-ltb (n + i) most h) ∙ ap s e)

pub gap_books : GapBooks
gap_books = gap_laws

pub table_books : TableBooks
table_books = table_laws

pub joined_books : JoinedBooks
joined_books f s = record {
  groups = refl;
  count = refl;
  first = λ i h. (after_first f.count f.ends s.ends None i h, λ a b. after_first f.count (λ k. f.permits k a b) (λ k. s.permits k a b) false i h);
  second = λ i h. (after_second f.count f.ends s.ends None i h, λ a b. after_second f.count (λ k. f.permits k a b) (λ k. s.permits k a b) false i h);
}

-- a rule that reads as another does what it does
pub permits_like : (m n : Meaning) (i j g h : ℕ) (P : ℕ → ℕ → Type 0) → n.ends j ≡ m.ends i → ((a b : ℕ) → n.permits j a b ≡ m.permits i a b) →
    Permits m i g h P → Permits n j g h P
permits_like m n i j g h P e q p = record {
  ends = e ∙ p.ends;
  permits = λ a b k l. subst (λ r. Decides r (P a b)) (sym (q a b)) (p.permits a b k l);
  high = λ a b r. p.high a b (sym (q a b) ∙ r);
}
