-- What each answer of a check means.
use Rattle.std.proofs.Common.{◌≡◌, ℕ, ◌<◌, Bool, true, false, cond, eqb, ltb, leb, List, length, get_or, Some, None, Option, sym, refl, ap, ◌∙◌, subst, ⊎_elim, arith, MatchOption}
use Rattle.std.proofs.lemmas.Bool.{false≢true, and_parts, and_from, not-false, not-true, not_from_true, not_from_false, ltb-true, lt-ltb, leb-true, le-leb, eqb-true, eq-eqb, cond-true, cases_lt, cases_Bool, both_ways}
use Rattle.std.specs.Option.{option_or}
use Rattle.rules.specs.Channels.{has, channel_in}
use Rattle.rules.specs.Meanings.{Meaning, Lawful}
use Rattle.rules.specs.Plans.{Listed, Complete, BreaksAt, Breaks, Plan}
use Rattle.rules.specs.Checks.{lowest, placed_at, counts_fit, unlisted, broken_by, broken, Counted, FirstUnlisted, FirstBroken, CheckMeans, CheckFindsPlans}
use Rattle.rules.specs.declared.refusal.Refusal.{Refusal}
use Rattle.rules.specs.declared.refusal.Refusal.TheVariants.{Counts, NotListed, RuleBroken}
use Rattle.rules.proofs.Firsts.{First, lowest_none, lowest_tells}

-- the answer from its three parts
abbrev answer : Bool → Option ℕ → Option ℕ → Option Refusal
answer b u v = cond b (option_or (placed_at NotListed u) (placed_at RuleBroken v)) (Some Counts)

none_parts : (b : Bool) (u v : Option ℕ) → answer b u v ≡ None → (b ≡ true) × (u ≡ None) × (v ≡ None)
none_parts true None None e = (refl, refl, refl)
none_parts true None (Some i) e = (refl, refl, cc)
none_parts true (Some g) v e = (refl, cc, cc)
none_parts false u v e = (cc, cc, cc)

counts_part : (b : Bool) (u v : Option ℕ) → answer b u v ≡ Some Counts → b ≡ false
counts_part true None None e = cc
counts_part true None (Some i) e = cc
counts_part true (Some g) v e = cc
counts_part false u v e = refl

listed_parts : (b : Bool) (u v : Option ℕ) (g : ℕ) → answer b u v ≡ Some (NotListed g) → (b ≡ true) × (u ≡ Some g)
listed_parts true None None g e = (refl, cc)
listed_parts true None (Some i) g e = (refl, cc)
listed_parts true (Some h) v g e = (refl, cc)
listed_parts false u v g e = (cc, cc)

broken_parts : (b : Bool) (u v : Option ℕ) (i : ℕ) → answer b u v ≡ Some (RuleBroken i) → (b ≡ true) × (u ≡ None) × (v ≡ Some i)
broken_parts true None None i e = (refl, refl, cc)
broken_parts true None (Some j) i e = (refl, refl, cc)
broken_parts true (Some g) v i e = (refl, cc, cc)
broken_parts false u v i e = (cc, cc, cc)

module _ (lists : List ℕ) (book : Meaning) (x : List ℕ) where
  counted : counts_fit lists book x ≡ true → Counted lists book x
  counted e =
      let a = and_parts (leb 1 (length lists)) _ e in
      let b = and_parts (leb (length lists) 200) _ a.1 in
      let c = and_parts (eqb book.groups (length lists)) _ b.1 in
      let d = and_parts (leb book.count 4096) _ c.1 in
      record {
        some = leb-true _ _ a.0;
        few = leb-true _ _ b.0;
        groups = eqb-true _ _ c.0;
        rules = leb-true _ _ d.0;
        size = eqb-true _ _ d.1;
      }

  fitted : Counted lists book x → counts_fit lists book x ≡ true
  fitted c =
      and_from _ _ (le-leb _ _ c.some) (and_from _ _ (le-leb _ _ c.few) (and_from _ _ (eq-eqb _ _ c.groups)
      (and_from _ _ (le-leb _ _ c.rules) (eq-eqb _ _ c.size))))

  listed : (g : ℕ) → g < length lists → unlisted lists x g ≡ false → Listed lists g (get_or x g 64)
  listed g l e =
      let p = and_parts (ltb (get_or x g 64) 64) (has (get_or lists g 0) (get_or x g 64)) (not-false (channel_in (get_or lists g 0) (get_or x g 64)) e) in
      record { group = l; channel = ltb-true _ _ p.0; bit = p.1 }

  there : (g : ℕ) → Listed lists g (get_or x g 64) → unlisted lists x g ≡ false
  there g h = not_from_true _ (and_from _ _ (lt-ltb _ _ h.channel) h.bit)

  breaks_by : (o : Option (ℕ × ℕ)) (i : ℕ) → book.ends i ≡ o → broken_by o book x i ≡ true → BreaksAt book x i
  breaks_by None i e h = absurd (false≢true h)
  breaks_by (Some p) i e h = (p.0, p.1, e, not-true _ h)

  breaks_at : (i : ℕ) → broken book x i ≡ true → BreaksAt book x i
  breaks_at i h = breaks_by (book.ends i) i refl h

  at_breaks : (i : ℕ) → BreaksAt book x i → broken book x i ≡ true
  at_breaks i h = ap (λ (o : Option (ℕ × ℕ)). broken_by o book x i) h.2 ∙ not_from_false _ h.3

  complete : Counted lists book x → lowest (unlisted lists x) (length lists) ≡ None → Complete lists x
  complete c e =
      let f : (k : ℕ) → k < length lists → unlisted lists x k ≡ false =
      subst (λ (o : Option ℕ). MatchOption o ((k : ℕ) → k < length lists → unlisted lists x k ≡ false) (First (unlisted lists x) (length lists))) e
      (lowest_tells (unlisted lists x) (length lists)) in
      record { size = c.size; listed = λ g l. listed g l (f g l) }

  kept : Lawful book → lowest (broken book x) book.count ≡ None → Breaks book x → ⊥
  kept law e b =
      let f : (k : ℕ) → k < book.count → broken book x k ≡ false =
      subst (λ (o : Option ℕ). MatchOption o ((k : ℕ) → k < book.count → broken book x k ≡ false) (First (broken book x) book.count)) e
      (lowest_tells (broken book x) book.count) in
      let t = at_breaks b.0 (b.1, b.2, b.3, b.4) in
      ⊎_elim (λ l. both_ways (broken book x b.0) (f b.0 l) t)
      (λ l. let z : Some (b.1, b.2) ≡ None = sym b.3 ∙ law.past b.0 l in let w : ◌≡◌ {A = ℕ} 0 1 = cc in omega arith) (cases_lt b.0 book.count)

  none_broken : Plan lists book x → (k : ℕ) → k < book.count → broken book x k ≡ false
  none_broken p k l =
      ⊎_elim (λ t. let h = breaks_at k t in absurd (p.kept (k, h.0, h.1, h.2, h.3))) (λ e. e) (cases_Bool (broken book x k))

  first_unlisted_lem : (g : ℕ) → lowest (unlisted lists x) (length lists) ≡ Some g → FirstUnlisted lists x g
  first_unlisted_lem g e =
      let f : First (unlisted lists x) (length lists) g =
      subst (λ (o : Option ℕ). MatchOption o ((k : ℕ) → k < length lists → unlisted lists x k ≡ false) (First (unlisted lists x) (length lists))) e
      (lowest_tells (unlisted lists x) (length lists)) in
      record {
        group = f.within;
        missing = λ h. both_ways (unlisted lists x g) (there g h) f.passes;
        before = λ h l. listed h (omega (arith, f.within)) (f.before h l);
      }

  first_broken_lem : (i : ℕ) → lowest (broken book x) book.count ≡ Some i → FirstBroken book x i
  first_broken_lem i e =
      let f : First (broken book x) book.count i =
      subst (λ (o : Option ℕ). MatchOption o ((k : ℕ) → k < book.count → broken book x k ≡ false) (First (broken book x) book.count)) e
      (lowest_tells (broken book x) book.count) in
      record {
        counted = f.within;
        broken = breaks_at i f.passes;
        before = λ j l h. both_ways (broken book x j) (f.before j l) (at_breaks j h);
      }

  abbrev un : Option ℕ
  un = lowest (unlisted lists x) (length lists)

  abbrev br : Option ℕ
  br = lowest (broken book x) book.count

  pub check_means : Lawful book → CheckMeans lists book x
  check_means law = record {
    fits = λ e. let p = none_parts (counts_fit lists book x) un br e in let c = counted p.0 in
        (c, record { complete = complete c p.1; kept = kept law p.2 });
    plan = λ c p. cond-true (counts_fit lists book x) _ _ (fitted c)
        ∙ (ap (λ (o : Option ℕ). option_or (placed_at NotListed o) (placed_at RuleBroken br)) (lowest_none (unlisted lists x) (length lists) (λ k l. there k (p.complete.listed k l)))
        ∙ ap (placed_at RuleBroken) (lowest_none (broken book x) book.count (none_broken p)));
    counts = λ e c. both_ways (counts_fit lists book x) (counts_part (counts_fit lists book x) un br e) (fitted c);
    not_listed = λ g e. let p = listed_parts (counts_fit lists book x) un br g e in (counted p.0, first_unlisted_lem g p.1);
    rule_broken = λ i e. let p = broken_parts (counts_fit lists book x) un br i e in
        (counted p.0, complete (counted p.0) p.1, first_broken_lem i p.2);
  }

pub check_finds_plans : CheckFindsPlans
check_finds_plans lists book x law = check_means lists book x law
