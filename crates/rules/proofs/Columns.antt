-- How far apart two rows of a table have to be for every channel to be in one of them. Assumes nothing.
use Rattle.std.proofs.Common.{◌≡◌, ℕ, ◌+◌, ◌-◌, ◌^◌, ◌<◌, ◌≤◌, Bool, true, false, not, ◌||◌, inl, inr, bit_and, bit_or, Decides, List, get_or, length, sym, ap, ◌∙◌, subst, arith}
use Rattle.std.proofs.lemmas.Bool.{both_ways, cases_lt, and_parts, and_from, or_cases, or_left, or_right, not-true}
use Rattle.std.proofs.lemmas.Nat.{and_le_r}
use Rattle.rules.specs.Channels.{has}
use Rattle.rules.specs.Supports.{Least}
use Rattle.rules.specs.Tables.{row}
use Rattle.rules.proofs.Digits.{has_none, has_some, has_below}
use Rattle.rules.proofs.Rows.{and_has, or_has}
use Rattle.rules.proofs.Spreading.{Unserved, Asked, either, least_from}

module _ (bs : List ℕ) (o : ℕ) where
  -- a channel across, which is a row here, goes with a channel
  abbrev pub column : ℕ → ℕ → Bool
  column b a = has (row bs o a) b

  -- Some row below k lacks the channel.
  abbrev pub Lacked : ℕ → ℕ → Type 0
  Lacked k b = (a : ℕ) × (a < k) × (column b a ≡ false)

  -- The rows below k: what they lack, what those up to each lack, and how far apart two of them have to be.
  pub record Lacking (k all : ℕ) (lacked : List ℕ) (w : ℕ) : Type 0 where
    pub together : (b : ℕ) → b < 64 → Decides (has all b) (Lacked k b)
    pub each : (j b : ℕ) → j < k → b < 64 → Decides (has (get_or lacked j 0) b) (Lacked (j + 1) b)
    pub serves : (b a c : ℕ) → b < 64 → a + w ≤ c → c < k → (column b a || column b c) ≡ true
    pub asked : Asked column w
    pub few : w ≤ k
    pub size : length lacked ≡ 64

  pub lacking_all : (all : ℕ) (lacked : List ℕ) (w : ℕ) → Lacking 64 all lacked w → Least column w
  lacking_all all lacked w h = least_from column w (λ b a c l r u. h.serves b a c l r u) h.asked

  -- one row more
  module _ (k all : ℕ) (lacked lacked' : List ℕ) (w w' lacks : ℕ) (h : Lacking k all lacked w) (k_in : k < 64) (fits : lacks < 2 ^ 64)
      (misses : (b : ℕ) → b < 64 → has lacks b ≡ not (column b k))
      (size : length lacked' ≡ length lacked) (here : get_or lacked' k 0 ≡ bit_or all lacks) (others : (j : ℕ) → j < k → get_or lacked' j 0 ≡ get_or lacked j 0)
      (wider : w ≤ w') (within : w' ≤ k + 1) (clear : w' ≤ k → bit_and (get_or lacked' (k - w') 0) lacks ≡ 0) (reached : w < w' → bit_and (get_or lacked' (k - (w' - 1)) 0) lacks ≡ 0 → ⊥) where
    now : (b : ℕ) → b < 64 → Decides (has (bit_or all lacks) b) (Lacked (k + 1) b)
    now b l = (
      (λ e. elim (or_cases _ _ (sym (or_has all lacks b) ∙ e)) [
        | inl p ↦ (let t = (h.together b l).0 p in (t.0, omega (arith, t.1), t.2))
        | inr p ↦ (k, omega arith, not-true (column b k) (sym (misses b l) ∙ p))
      ]),
      (λ t. or_has all lacks b ∙ elim (cases_lt t.0 k) [
        | inl i ↦ or_left _ _ ((h.together b l).1 (t.0, i, t.2))
        | inr i ↦ (let e : t.0 ≡ k = omega (arith, t.1) in or_right _ _ (misses b l ∙ ap not (subst (λ (x : ℕ). column b x ≡ false) e t.2)))
      ]),
    )

    each_now : (j b : ℕ) → j < k + 1 → b < 64 → Decides (has (get_or lacked' j 0) b) (Lacked (j + 1) b)
    each_now j b i l = elim (cases_lt j k) [
      | inl r ↦ subst (λ (x : ℕ). Decides (has x b) (Lacked (j + 1) b)) (sym (others j r)) (h.each j b r l)
      | inr r ↦ (let e : k ≡ j = omega arith in subst (λ (x : ℕ). Decides (has (get_or lacked' x 0) b) (Lacked (x + 1) b)) e (subst (λ (x : ℕ). Decides (has x b) (Lacked (k + 1) b)) (sym here) (now b l)))
    ]

    -- a row that lacks what this one lacks is nearer
    near : (b a : ℕ) → b < 64 → a + w' ≤ k → column b a ≡ false → column b k ≡ false → ⊥
    near b a l r p q =
        let t : has (get_or lacked' (k - w') 0) b ≡ true = (each_now (k - w') b (omega arith) l).1 (a, omega arith, p) in
        let u : has lacks b ≡ true = misses b l ∙ ap not q in
        both_ways (has 0 b) (has_none b) (subst (λ (x : ℕ). has x b ≡ true) (clear (omega arith)) (and_has _ lacks b ∙ and_from _ _ t u))

    asks : w < w' → Unserved column (w' - 1)
    asks l =
        let z = and_le_r (get_or lacked' (k - (w' - 1)) 0) lacks in
        let t = has_some (bit_and (get_or lacked' (k - (w' - 1)) 0) lacks) (omega (arith, z)) (reached l) in
        let p : (has (get_or lacked' (k - (w' - 1)) 0) t.0 ≡ true) × (has lacks t.0 ≡ true) = and_parts _ _ (sym (and_has _ lacks t.0) ∙ t.1) in
        let b_in : t.0 < 64 = has_below lacks t.0 fits p.1 in
        let in_reach : k - (w' - 1) < k + 1 = omega arith in
        let u = (each_now (k - (w' - 1)) t.0 in_reach b_in).0 p.0 in
        record { near = t.0; low = u.0; high = k; near_in = b_in; apart = omega (arith, u.1); high_in = k_in; not_low = u.2; not_high = not-true (column t.0 k) (sym (misses t.0 b_in) ∙ p.1) }

    pub lacking_on : Lacking (k + 1) (bit_or all lacks) lacked' w'
    lacking_on = record {
      together = now;
      each = each_now;
      serves = λ b a c l r u. elim (cases_lt c k) [
        | inl i ↦ h.serves b a c l (omega arith) i
        | inr i ↦ (let e : c ≡ k = omega arith in rw e (either (column b a) (column b k) (near b a l (omega arith))))
      ];
      asked = elim (cases_lt w w') [
        | inl l ↦ inr (asks l)
        | inr l ↦ (let e : w ≡ w' = omega arith in subst (Asked column) e h.asked)
      ];
      few = within;
      size = size ∙ h.size;
    }
