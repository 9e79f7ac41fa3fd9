-- The least distance between two channels across with which every channel at this end goes with one. Assumes nothing.
use Rattle.std.proofs.Common.{◌≡◌, ℕ, zero, suc, ◌+◌, ◌-◌, ◌^◌, ◌<◌, ◌≤◌, Bool, true, false, not, ◌||◌, max, ◌⊎◌, inl, inr, is_some, Some, None, Option, sym, refl, ap, ◌∙◌, subst, arith}
use Rattle.std.proofs.lemmas.Bool.{both_ways, cases_lt, cases_eq, cases_Bool, or_cases, or_left, or_right, not-true}
use Rattle.rules.specs.Channels.{has, Spans}
use Rattle.rules.specs.Meanings.{Meaning, Lawful}
use Rattle.rules.specs.Supports.{allows, Kept, Serves, Least, Spread}
use Rattle.rules.specs.Laws.{SpreadLaws, OneSpread}
use Rattle.rules.proofs.Rows.{all_has, one_has, one_has_only}

-- Some channel at this end goes with neither of two that are w or more apart.
pub record Unserved (goes : ℕ → ℕ → Bool) (w : ℕ) : Type 0 where
  pub near : ℕ
  pub low : ℕ
  pub high : ℕ
  pub near_in : near < 64
  pub apart : low + w ≤ high
  pub high_in : high < 64
  pub not_low : goes near low ≡ false
  pub not_high : goes near high ≡ false

-- What is asked of w is no more than some channel asks.
abbrev pub Asked : (ℕ → ℕ → Bool) → ℕ → Type 0
Asked goes w = (w ≡ 0) ⊎ Unserved goes (w - 1)

-- one of two tests passes
pub either : (p q : Bool) → (p ≡ false → q ≡ false → ⊥) → (p || q) ≡ true
either true q h = refl
either false true h = refl
either false false h = absurd (h refl refl)

module _ (goes : ℕ → ℕ → Bool) where
  unserved : (v : ℕ) → Unserved goes v → Serves goes v → ⊥
  unserved v u h = elim (or_cases _ _ (h u.near u.low u.high u.near_in u.apart u.high_in)) [
    | inl e ↦ both_ways (goes u.near u.low) u.not_low e
    | inr e ↦ both_ways (goes u.near u.high) u.not_high e
  ]

  nearer : (v w : ℕ) → v ≤ w → Unserved goes w → Unserved goes v
  nearer v w l u = record { near = u.near; low = u.low; high = u.high; near_in = u.near_in; apart = omega (arith, u.apart); high_in = u.high_in; not_low = u.not_low; not_high = u.not_high }

  -- what serves, and is asked for, is the least
  pub least_from : (w : ℕ) → Serves goes w → Asked goes w → Least goes w
  least_from w s a = record {
    serves = s;
    least = λ v h. elim (cases_lt v w) [
      | inl l ↦ elim a [
        | inl e ↦ absurd (omega arith)
        | inr u ↦ absurd (unserved v (nearer v (w - 1) (omega arith) u) h)
      ]
      | inr l ↦ l
    ];
  }

  -- the distance that the channels below k ask for
  pub record Widest (k w : ℕ) : Type 0 where
    pub serves : (a b c : ℕ) → a < k → b + w ≤ c → c < 64 → (goes a b || goes a c) ≡ true
    pub asked : Asked goes w

  pub widest_none : Widest 0 0
  widest_none = record { serves = λ a b c l. absurd (omega arith); asked = inl refl }

  pub widest_all : (w : ℕ) → Widest 64 w → Least goes w
  widest_all w h = least_from w h.serves h.asked

  -- one more, of which the channels missed and what they span are known
  module _ (k w set x : ℕ) (h : Widest k w) (k_in : k < 64) (misses : (b : ℕ) → b < 64 → has set b ≡ not (goes k b)) (inside : (b : ℕ) → has set b ≡ true → b < 64) (spans : Spans set x) where
    missing : (b : ℕ) → b < 64 → goes k b ≡ false → has set b ≡ true
    missing b l e = misses b l ∙ ap not e

    missed : (b : ℕ) → has set b ≡ true → goes k b ≡ false
    missed b e = not-true (goes k b) (sym (misses b (inside b e)) ∙ e)

    asks : Asked goes x
    asks = elim (cases_eq set 0) [
      | inl e ↦ inl (spans.none e)
      | inr n ↦ (let t = spans.reached n in let z = spans.within t.0 t.0 t.2 t.2 in inr (record {
        near = k;
        low = t.0;
        high = t.1;
        near_in = k_in;
        apart = omega (arith, z, t.4);
        high_in = inside t.1 t.3;
        not_low = missed t.0 t.2;
        not_high = missed t.1 t.3;
      }))
    ]

    pub widest_on : Widest (k + 1) (max w x)
    widest_on = record {
      serves = λ a b c l r u. elim (cases_lt a k) [
        | inl i ↦ h.serves a b c i (omega arith) u
        | inr i ↦ (let e : a ≡ k = omega arith in rw e (either (goes k b) (goes k c) (λ p q. let z = spans.within b c (missing b (omega arith) p) (missing c u q) in omega arith)))
      ];
      asked = elim (cases_lt w x) [
        | inl l ↦ (let e : x ≡ max w x = omega arith in subst (Asked goes) e asks)
        | inr l ↦ (let e : w ≡ max w x = omega arith in subst (Asked goes) e h.asked)
      ];
    }

-- a test that says the same of channels
pub serves_like : (p q : ℕ → ℕ → Bool) → ((a b : ℕ) → a < 64 → b < 64 → p a b ≡ q a b) → (w : ℕ) → Serves p w → Serves q w
serves_like p q same w h a b c l r u =
    subst (λ (x : Bool). (x || q a c) ≡ true) (same a b l (omega arith)) (subst (λ (x : Bool). (p a b || x) ≡ true) (same a c l u) (h a b c l r u))

pub least_like : (p q : ℕ → ℕ → Bool) → ((a b : ℕ) → a < 64 → b < 64 → p a b ≡ q a b) → (w : ℕ) → Least p w → Least q w
least_like p q same w h = record {
  serves = serves_like p q same w h.serves;
  least = λ v s. h.least v (serves_like q p (λ a b l r. sym (same a b l r)) v s);
}

-- the channels across that go with one channel alone
pub backed_one : (m : Meaning) (i : ℕ) (s : Bool) (a kept : ℕ) → Kept m i (not s) (2 ^ 64 - 1) (2 ^ a) kept → (b : ℕ) → b < 64 → has kept b ≡ allows m i s a b
backed_one m i s a kept k b l = elim (cases_Bool (has kept b)) [
  | inl e ↦ (let t = k.backed b e in let z = one_has_only a t.0 t.1 in e ∙ sym (sym (turned s) ∙ subst (λ (x : ℕ). allows m i (not s) b x ≡ true) z t.2))
  | inr e ↦ elim (cases_Bool (allows m i s a b)) [
    | inl f ↦ absurd (both_ways (has kept b) e (k.all b (all_has b l) (a, one_has a, turned s ∙ f)))
    | inr f ↦ e ∙ sym f
  ]
]
  where
    turned : (s : Bool) → allows m i (not s) b a ≡ allows m i s a b
    turned true = refl
    turned false = refl

pub some_none : {X : Type 0} (o : Option X) → is_some o ≡ true → o ≡ None → ⊥
some_none o h e = both_ways (is_some o) (ap is_some e) h

-- of a rule that binds, and of one that does not
pub spread_bound : (m : Meaning) (i : ℕ) (s : Bool) (w : ℕ) → is_some (m.ends i) ≡ true → Least (allows m i s) w → Spread m i s w
spread_bound m i s w h l = record {
  blank = λ e. absurd (some_none (m.ends i) h e);
  enough = λ _. l.serves;
  least = λ n v f. l.least v (f n);
}

pub spread_blank : (m : Meaning) (i : ℕ) (s : Bool) → m.ends i ≡ None → Spread m i s 0
spread_blank m i s e = record { blank = λ _. refl; enough = λ n. absurd (n e); least = λ n. absurd (n e) }

-- all below n have the one, or some has the other
search_all : {P Q : ℕ → Type 0} (n : ℕ) → ((k : ℕ) → P k ⊎ Q k) → ((k : ℕ) → k < n → P k) ⊎ ((k : ℕ) × (k < n) × Q k)
search_all zero f = inl (λ k l. absurd (omega arith))
search_all {P} {Q} (suc n) f = go (f n) (search_all n f)
  where
    go : P n ⊎ Q n → ((k : ℕ) → k < n → P k) ⊎ ((k : ℕ) × (k < n) × Q k) → ((k : ℕ) → k < suc n → P k) ⊎ ((k : ℕ) × (k < suc n) × Q k)
    go (inr q) r = inr (n, omega arith, q)
    go (inl p) (inr t) = inr (t.0, omega (arith, t.1), t.2)
    go (inl p) (inl h) = inl (λ k l. elim (cases_eq k n) [ inl e ↦ subst P (sym e) p | inr d ↦ h k (omega arith) ])

module _ (goes : ℕ → ℕ → Bool) where
  served? : (w a c b : ℕ) → (b + w ≤ c → (goes a b || goes a c) ≡ true) ⊎ ((b + w ≤ c) × (goes a b ≡ false) × (goes a c ≡ false))
  served? w a c b = elim (cases_lt c (b + w)) [
    | inl l ↦ inl (λ h. absurd (omega arith))
    | inr l ↦ elim (cases_Bool (goes a b)) [
      | inl e ↦ inl (λ _. or_left _ _ e)
      | inr e ↦ elim (cases_Bool (goes a c)) [
        | inl f ↦ inl (λ _. or_right _ _ f)
        | inr f ↦ inr (l, e, f)
      ]
    ]
  ]

  serves? : (w : ℕ) → Serves goes w ⊎ Unserved goes w
  serves? w = elim (search_all 64 (λ a. search_all 64 (λ c. search_all 64 (served? w a c)))) [
    | inl h ↦ inl (λ a b c l r u. h a l c u b (omega arith) r)
    | inr t ↦ inr (record { near = t.0; low = t.2.2.0; high = t.2.0; near_in = t.1; apart = t.2.2.2.0; high_in = t.2.1; not_low = t.2.2.2.1; not_high = t.2.2.2.2 })
  ]

  -- no two channels are 64 apart
  apart : Serves goes 64
  apart a b c l r u = absurd (omega arith)

  climb : (n k : ℕ) → n + k ≡ 64 → Asked goes k → (w : ℕ) × Least goes w
  climb zero k e h = (k, least_from goes k (λ a b c l r u. absurd (omega arith)) h)
  climb (suc n) k e h = elim (serves? k) [
    | inl s ↦ (k, least_from goes k s h)
    | inr u ↦ climb n (suc k) (omega arith) (let z : k ≡ suc k - 1 = omega arith in inr (subst (Unserved goes) z u))
  ]

  least_there : (w : ℕ) × Least goes w
  least_there = climb 64 0 refl (inl refl)

module _ (m : Meaning) (i : ℕ) (s : Bool) where
  bound_or_blank : (is_some (m.ends i) ≡ true) ⊎ (m.ends i ≡ None)
  bound_or_blank = go (m.ends i)
    where
      go : (o : Option (ℕ × ℕ)) → (is_some o ≡ true) ⊎ (o ≡ None)
      go None = inr refl
      go (Some e) = inl refl

  pub spread_laws : Lawful m → SpreadLaws m i s
  spread_laws law = record {
    some = elim bound_or_blank [
      | inl h ↦ (let t = least_there (allows m i s) in (t.0, spread_bound m i s t.0 h t.1))
      | inr e ↦ (0, spread_blank m i s e)
    ];
    one = λ v w p q. elim bound_or_blank [
      | inl h ↦ (let a = p.least (some_none (m.ends i) h) w q.enough in let b = q.least (some_none (m.ends i) h) v p.enough in omega arith)
      | inr e ↦ p.blank e ∙ sym (q.blank e)
    ];
    within = λ w p. elim bound_or_blank [
      | inl h ↦ p.least (some_none (m.ends i) h) 64 (λ _. apart (allows m i s))
      | inr e ↦ (let z = p.blank e in omega arith)
    ];
    past = λ w p l. p.blank (law.past i l);
  }

pub one_spread : OneSpread
one_spread book law i s = spread_laws book i s law
