-- The channels that a table's rows support, from one end and from the other. Assumes nothing.
use Rattle.std.proofs.Common.{◌≡◌, ℕ, ◌-◌, ◌^◌, ◌<◌, true, false, not, ltb, Decides, List, bit_and, bit_or, is_some, get_or, sym, ap, ◌∙◌, subst, inl, inr, arith}
use Rattle.std.proofs.lemmas.Bool.{and_parts, and_from, or_cases, or_left, or_right, lt-ltb, cases_eq, cases_Bool, both_ways}
use Rattle.std.proofs.lemmas.Nat.{and_le_r}
use Rattle.rules.specs.Channels.{has}
use Rattle.rules.specs.Supports.{allows, Kept, Least, Spread}
use Rattle.rules.specs.Tables.{tables, row, no_table, Meets, Reached}
use Rattle.rules.specs.declared.table.TableEntry.{TableEntry}
use Rattle.rules.proofs.Digits.{Cut, cut_inside, cut_stays, has_none, has_some, has_below}
use Rattle.rules.proofs.Rows.{and_has, or_has, not_has}
use Rattle.rules.proofs.Spreading.{least_like, spread_bound}

-- what a row lacks
pub row_lacks : (bs : List ℕ) (o a r : ℕ) → r ≡ row bs o a → r < 2 ^ 64 → (b : ℕ) → b < 64 → has (2 ^ 64 - 1 - r) b ≡ not (has (row bs o a) b)
row_lacks bs o a r e q b l = not_has r b q l ∙ ap (λ (x : ℕ). not (has x b)) e

module _ (bs : List ℕ) (o across : ℕ) where
  -- a row with no channel of the set, and with one
  module _ (a r : ℕ) (is : r ≡ row bs o a) where
    pub row_misses : bit_and r across ≡ 0 → Meets bs o across a → ⊥
    row_misses e t =
        let h : has r t.0 ≡ true = subst (λ (x : ℕ). has x t.0 ≡ true) (sym is) t.2 in
        both_ways (has 0 t.0) (has_none t.0) (subst (λ (x : ℕ). has x t.0 ≡ true) e (and_has r across t.0 ∙ and_from _ _ h t.1))

    pub row_meets : across < 2 ^ 64 → (bit_and r across ≡ 0 → ⊥) → Meets bs o across a
    row_meets q n =
        let l = and_le_r r across in
        let t = has_some (bit_and r across) (omega (arith, l, q)) n in
        let p = and_parts (has r t.0) (has across t.0) (sym (and_has r across t.0) ∙ t.1) in
        (t.0, p.1, subst (λ (x : ℕ). has x t.0 ≡ true) is p.0)

  -- The rows put together, of a set of which the channels of todo are still to be looked at.
  pub record Gathered (all todo : ℕ) : Type 0 where
    pub inside : (a : ℕ) → has todo a ≡ true → has across a ≡ true
    pub sound : (b : ℕ) → has all b ≡ true → Reached bs o across b
    pub done : (a b : ℕ) → has across a ≡ true → has todo a ≡ false → has (row bs o a) b ≡ true → has all b ≡ true

  pub gathered_none : Gathered 0 across
  gathered_none = record {
    inside = λ a h. h;
    sound = λ b h. absurd (both_ways (has 0 b) (has_none b) h);
    done = λ a b h n. absurd (both_ways (has across a) n h);
  }

  pub gathered_on : (all todo a todo' : ℕ) → Gathered all todo → has todo a ≡ true → Cut todo a todo' → Gathered (bit_or all (row bs o a)) todo'
  gathered_on all todo a todo' g h cut = record {
    inside = λ c k. g.inside c (cut_inside todo a todo' cut c k);
    sound = λ b k. elim (or_cases _ _ (sym (or_has all (row bs o a) b) ∙ k)) [ inl e ↦ g.sound b e | inr e ↦ (a, g.inside a h, e) ];
    done = λ c b k n r. or_has all (row bs o a) b ∙ elim (cases_eq c a) [
      | inl q ↦ or_right _ _ (subst (λ (x : ℕ). has (row bs o x) b ≡ true) q r)
      | inr d ↦ or_left _ _ (g.done c b k (elim (cases_Bool (has todo c)) [ inl y ↦ absurd (both_ways (has todo' c) n (cut_stays todo a todo' cut c y d)) | inr y ↦ y ]) r)
    ];
  }

  pub gathered_all : (all : ℕ) → Gathered all 0 → (b : ℕ) → Decides (has all b) (Reached bs o across b)
  gathered_all all g b = (λ h. g.sound b h, λ t. g.done t.0 b t.1 (has_none t.0) t.2)

-- the channels that a rule of a table permits
module _ (n : ℕ) (bs : List ℕ) (es : List TableEntry) (i : ℕ) (bound : is_some ((tables n bs es).ends i) ≡ true) where
  abbrev at : ℕ
  at = (get_or es i no_table).offset

  row_permits : (a b : ℕ) → a < 64 → b < 64 → has (row bs at a) b ≡ true → (tables n bs es).permits i a b ≡ true
  row_permits a b k l h = and_from _ _ bound (and_from _ _ (lt-ltb a 64 k) (and_from _ _ (lt-ltb b 64 l) h))

  permits_row : (a b : ℕ) → (tables n bs es).permits i a b ≡ true → has (row bs at a) b ≡ true
  permits_row a b h =
      let p = and_parts _ _ h in
      let q = and_parts (ltb a 64) _ p.1 in
      let r = and_parts (ltb b 64) _ q.1 in
      r.1

  module _ (set across kept : ℕ) (set_fits : set < 2 ^ 64) (across_fits : across < 2 ^ 64) where
    pub met_kept : ((j : ℕ) → Decides (has kept j) ((has set j ≡ true) × Meets bs at across j)) → Kept (tables n bs es) i false set across kept
    met_kept is = record {
      inside = λ j h. ((is j).0 h).0;
      backed = λ j h. let t = (is j).0 h in
          (t.1.0, t.1.1, row_permits j t.1.0 (has_below set j set_fits t.0) (has_below across t.1.0 across_fits t.1.1) t.1.2);
      all = λ j h t. (is j).1 (h, (t.0, t.1, permits_row j t.0 t.2));
    }

    pub reached_kept : (all : ℕ) → ((j : ℕ) → Decides (has all j) (Reached bs at across j)) → kept ≡ bit_and set all → Kept (tables n bs es) i true set across kept
    reached_kept all is e = record {
      inside = λ j h. (parts j h).0;
      backed = λ j h. let p = parts j h in let t = (is j).0 p.1 in
          (t.0, t.1, row_permits t.0 j (has_below across t.0 across_fits t.1) (has_below set j set_fits p.0) t.2);
      all = λ j h t. subst (λ (x : ℕ). has x j ≡ true) (sym e) (and_has set all j ∙ and_from _ _ h ((is j).1 (t.0, t.1, permits_row t.0 j t.2)));
    }
      where
        parts : (j : ℕ) → has kept j ≡ true → (has set j ≡ true) × (has all j ≡ true)
        parts j h = and_parts _ _ (sym (and_has set all j) ∙ subst (λ (x : ℕ). has x j ≡ true) e h)

  -- the least distance in the rows, and in the columns, is the spread at the one end and at the other
  row_as : (a b : ℕ) → a < 64 → b < 64 → has (row bs at a) b ≡ (tables n bs es).permits i a b
  row_as a b k l = elim (cases_Bool (has (row bs at a) b)) [
    | inl e ↦ e ∙ sym (row_permits a b k l e)
    | inr e ↦ elim (cases_Bool ((tables n bs es).permits i a b)) [
      | inl f ↦ absurd (both_ways (has (row bs at a) b) e (permits_row a b f))
      | inr f ↦ e ∙ sym f
    ]
  ]

  pub rows_spread : (w : ℕ) → Least (λ a b. has (row bs at a) b) w → Spread (tables n bs es) i false w
  rows_spread w h = spread_bound (tables n bs es) i false w bound (least_like (λ a b. has (row bs at a) b) (allows (tables n bs es) i false) row_as w h)

  pub columns_spread : (w : ℕ) → Least (λ b a. has (row bs at a) b) w → Spread (tables n bs es) i true w
  columns_spread w h = spread_bound (tables n bs es) i true w bound (least_like (λ b a. has (row bs at a) b) (allows (tables n bs es) i true) (λ b a k l. row_as a b l k) w h)
