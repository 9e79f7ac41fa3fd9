-- Each rule of a loaded job's book binds.
use Rattle.std.proofs.Common.{◌≡◌, ℕ, ◌+◌, ◌<◌, ◌≤◌, min, List, length, get_or, take, refl, ap, ◌∙◌, subst, arith}
use Rattle.std.proofs.ByRecursion.{All-get_or}
use Rattle.rules.specs.Meanings.{Meaning, Apart, most}
use Rattle.rules.proofs.Entries.{gap_books, table_books, joined_books, permits_like}
use Rattle.rules.specs.Channels.{Has}
use Rattle.rules.specs.Laws.{Differ, Permits}
use Rattle.rules.specs.Gaps.{gaps, no_gap}
use Rattle.rules.specs.Tables.{tables, no_table, row}
use Rattle.rules.specs.Joins.{joined}
use Rattle.rules.specs.declared.gap.GapEntry.{GapEntry}
use Rattle.rules.specs.declared.table.TableEntry.{TableEntry}
use Rattle.std.proofs.lemmas.List.{take_at}
use Rattle.jobs.specs.declared.load.Loaded.{Loaded}
use Rattle.jobs.specs.Jobs.{State, after, Lent, room, over, filled, held}
use Rattle.jobs.specs.Laws.{Good}
use Rattle.jobs.proofs.Goods.{loads_good}
use Rattle.jobs.specs.Books.{book_at, book_of, Binds, BookBinds, LoadedBook}

module _ (bs : List ℕ) (s : State) (g : Good bs s) where
  abbrev near : Meaning
  near = gaps (length s.lists) s.gaps

  abbrev far : Meaning
  far = tables (length s.lists) bs s.tables

  near_binds : (k : ℕ) → k < length s.gaps →
      Permits (book_of bs s) k (get_or s.gaps k no_gap).first (get_or s.gaps k no_gap).second (Differ (get_or s.gaps k no_gap).gap)
  near_binds k h =
      let i : k < min (length s.gaps) most = omega (arith, g.rules) in
      let a = All-get_or (λ (e : GapEntry). Apart (length s.lists) (e.first, e.second)) s.gaps k no_gap h g.gaps in
      let j = (joined_books near far).first k i in
      permits_like near (book_of bs s) k k _ _ _ j.0 j.1 ((gap_books (length s.lists) s.gaps).binds k i a)

  far_binds : (k : ℕ) → k < length s.tables →
      Permits (book_of bs s) (length s.gaps + k) (get_or s.tables k no_table).first (get_or s.tables k no_table).second
      (λ a b. Has (row bs (get_or s.tables k no_table).offset a) b)
  far_binds k h =
      let i : k < min (length s.tables) most = omega (arith, g.rules) in
      let q = All-get_or (λ (e : TableEntry). Apart (length s.lists) (e.first, e.second) × (e.offset + 512 ≤ length bs)) s.tables k no_table h g.tables in
      let j = (joined_books near far).second k (omega (arith, g.rules)) in
      let e : min (length s.gaps) most + k ≡ length s.gaps + k = omega (arith, g.rules) in
      subst (λ n. Permits (book_of bs s) n (get_or s.tables k no_table).first (get_or s.tables k no_table).second (λ a b. Has (row bs (get_or s.tables k no_table).offset a) b)) e
      (permits_like far (book_of bs s) k (min (length s.gaps) most + k) _ _ _ j.0 j.1 ((table_books (length s.lists) bs s.tables).binds k i q.0 q.1))

  binds : Binds bs s
  binds = record { groups = omega arith; count = omega (arith, g.rules); gaps = near_binds; tables = far_binds }

pub book_binds : BookBinds
book_binds bs m i a = binds bs (after bs i) (loads_good bs m i a).1

front : {X : Type 0} (xs ys : List X) → take (length xs) (over xs ys) ≡ xs
front xs ys = take_at xs _ (length xs) refl

book_front : (bs : List ℕ) (s : State) (p : Lent) → book_at bs (held s) (filled s p).gaps (filled s p).tables ≡ book_of bs s
book_front bs s p =
    ap (λ es. joined (gaps (length s.lists) es) (tables (length s.lists) bs (take (length s.tables) (over s.tables p.tables)))) (front s.gaps p.gaps)
    ∙ ap (λ es. joined (gaps (length s.lists) s.gaps) (tables (length s.lists) bs es)) (front s.tables p.tables)

pub loaded_book : LoadedBook
loaded_book bs p n q l =
    let i = l.index in
    let g = loads_good bs (room p) l.index l.accepts in
    let e : n.groups ≡ length (after bs l.index).lists = ap (λ (m : Loaded). m.groups) l.counts in
    record {
      index = l.index;
      accepts = l.accepts;
      groups = e;
      lists = ap (λ k. take k q.lists) e ∙ (ap (λ (x : Lent). take (length (after bs l.index).lists) x.lists) l.places ∙ front (after bs l.index).lists p.lists);
      book = ap (λ (m : Loaded). book_at bs m q.gaps q.tables) l.counts
          ∙ (ap (λ (x : Lent). book_at bs (held (after bs l.index)) x.gaps x.tables) l.places ∙ book_front bs (after bs l.index) p);
      some = omega (arith, g.0);
      good = g.1;
      binds = binds bs (after bs l.index) g.1;
    }
