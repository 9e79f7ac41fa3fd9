-- The channels that spans list.
use Rattle.std.proofs.Common.{◌≡◌, ℕ, ◌+◌, ◌≤◌, Bool, true, false, ◌||◌, ◌==◌, ◌-◌, ◌*◌, ◌/◌, ◌%◌, ◌^◌, ◌<◌, ◌&&◌, min, max, bit_and, bit_or, nat_lt, nat_le, List, [], ◌∷◌, ◌++◌, arith, refl, ◌∙◌, ap, subst, append_assoc, map, sym}
use Rattle.std.proofs.lemmas.Bool.Decides.{nat_tests}
use Rattle.std.proofs.lemmas.List.Folds.{list_any-append}
use Rattle.std.proofs.lemmas.Nat.Bits.{bit_at_and, bit_at_or, bit_at_ones, bit_at_ones_above, bit_at_mask_below, bit_at_mask_inside, bit_at-lt, bit_at_above, ones_shr, ones_shl}
use Rattle.std.specs.Int.{bit_at}
use Rattle.rules.specs.Channels.{has}
use Rattle.std.proofs.lemmas.List.{map-append}
use Rattle.text.specs.declared.span.Span.{Span}
use Rattle.text.specs.Lists.{Ends, Apart, Below, covers, listed, ends}

or_false : (b : Bool) → (b || false) ≡ b
or_false true = refl
or_false false = refl

pub listed_push : (xs : List Ends) (s : Ends) (c : ℕ) → listed (xs ++ (s ∷ [])) c ≡ (listed xs c || covers s c)
listed_push xs s c = list_any-append (λ t. covers t c) xs (s ∷ []) ∙ ap (λ b. listed xs c || b) (or_false (covers s c))

-- a span that is made one longer has one channel more
pub covers_longer : (a b n c : ℕ) → a ≤ b → b + 1 ≡ n → covers (a, n) c ≡ (covers (a, b) c || (c == n))
covers_longer a b n c h e = grind (arith, nat_tests)

pub covers_lone : (n c : ℕ) → covers (n, n) c ≡ (c == n)
covers_lone n c = grind (arith, nat_tests)

-- the masks of a span have its channels
from_bits : (x p q a b c : ℕ) → x ≡ min p q → (c < a → q ≡ 0) → (a ≤ c → c < 64 → q ≡ 1) → (c < b + 1 → p ≡ 1) → (b + 1 ≤ c → p ≡ 0) → b < 64 → (x == 1) ≡ (nat_le a c && nat_le c b)
from_bits x p q a b c e low inside ones above h = grind (arith, nat_tests)

pub masks : (a b c : ℕ) → a ≤ b → b < 64 → has (bit_and (18446744073709551615 / 2 ^ (63 - b)) (18446744073709551615 * 2 ^ a % 18446744073709551616)) c ≡ covers (a, b) c
masks a b c h k =
    let e : 18446744073709551615 / 2 ^ (63 - b) ≡ 2 ^ (b + 1) - 1 = ones_shr 64 (63 - b) (omega arith) ∙ ap (λ n. 2 ^ n - 1) (omega arith) in
    let d : 18446744073709551615 * 2 ^ a % 18446744073709551616 ≡ 2 ^ 64 - 2 ^ a = ones_shl 64 a (omega arith) in
    rw (e, d) (from_bits (bit_at (bit_and (2 ^ (b + 1) - 1) (2 ^ 64 - 2 ^ a)) c) (bit_at (2 ^ (b + 1) - 1) c) (bit_at (2 ^ 64 - 2 ^ a) c) a b c (bit_at_and (2 ^ (b + 1) - 1) (2 ^ 64 - 2 ^ a) c) (λ l. bit_at_mask_below a 64 c l) (λ l m. bit_at_mask_inside a 64 c l m) (λ l. bit_at_ones (b + 1) c l) (λ l. bit_at_ones_above (b + 1) c l) k)

or_bits : (x p q : ℕ) → x ≡ max p q → p < 2 → q < 2 → (x == 1) ≡ ((p == 1) || (q == 1))
or_bits x p q e l m = grind (arith, nat_tests)

pub has_or : (x y c : ℕ) → has (bit_or x y) c ≡ (has x c || has y c)
has_or x y c = or_bits (bit_at (bit_or x y) c) (bit_at x c) (bit_at y c) (bit_at_or x y c) (bit_at-lt x c) (bit_at-lt y c)

pub has_high : (x c : ℕ) → x < 2 ^ 64 → 64 ≤ c → has x c ≡ false
has_high x c h k = let e : bit_at x c ≡ 0 = bit_at_above x 64 c h k in grind (arith, nat_tests, e)

-- once every channel was passed, the spans have those of the set
all_of : (x n c : ℕ) (a b : Bool) → x ≡ n → a ≡ (nat_lt c n && b) → (n ≤ c → b ≡ false) → b ≡ a
all_of x n c true b e h k = grind (arith, nat_tests)
all_of x n c false b e h k = grind (arith, nat_tests)

pub all_passed : (set n : ℕ) (xs : List Ends) → set < 2 ^ 64 → 64 ≤ n → ((c : ℕ) → listed xs c ≡ (nat_lt c n && has set c)) → (c : ℕ) → has set c ≡ listed xs c
all_passed set n xs h k e c = all_of n n c (listed xs c) (has set c) refl (e c) (λ l. has_high set c h (omega (arith, k, l)))

-- spans with one more, or with a longer last one, and with the bounds that they keep
below_wider : (n m : ℕ) (xs : List Ends) → n ≤ m → Below n xs → Below m xs
below_wider n m [] h b = tt
below_wider n m (x ∷ xs) h b = (omega (arith, b.0, h), below_wider n m xs h b.1)

below_push : (n : ℕ) (xs : List Ends) (s : Ends) → Below n xs → s.1 < n → Below n (xs ++ (s ∷ []))
below_push n [] s b h = (h, tt)
below_push n (x ∷ xs) s b h = (b.0, below_push n xs s b.1 h)

below_front : (n : ℕ) (xs : List Ends) (s : Ends) → Below n (xs ++ (s ∷ [])) → Below n xs × (s.1 < n)
below_front n [] s b = (tt, b.0)
below_front n (x ∷ xs) s b = let r = below_front n xs s b.1 in ((b.0, r.0), r.1)

apart_longer : (n : ℕ) (xs : List Ends) (s t : Ends) → t.0 ≡ s.0 → Apart n (xs ++ (s ∷ [])) → Apart n (xs ++ (t ∷ []))
apart_longer n [] s t e a = (omega (arith, a.0, e), tt)
apart_longer n (x ∷ xs) s t e a = (a.0, apart_longer (x.1 + 2) xs s t e a.1)

apart_next : (n : ℕ) (xs : List Ends) (s t : Ends) → Apart n (xs ++ (s ∷ [])) → s.1 + 2 ≤ t.0 → Apart n (xs ++ (s ∷ t ∷ []))
apart_next n [] s t a h = (a.0, (h, tt))
apart_next n (x ∷ xs) s t a h = (a.0, apart_next (x.1 + 2) xs s t a.1 h)

-- spans that end with a channel
pub record Fit (c : ℕ) (ss : List Ends) : Type 0 where
  pub below : Below (c + 1) ss
  pub apart : Apart 0 ss

pub first_fits : (c : ℕ) → Fit c ((c, c) ∷ [])
first_fits c = record { below = (omega arith, tt); apart = (omega arith, tt) }

pub longer_fits : (c : ℕ) (xs : List Ends) (s : Ends) → Below c (xs ++ (s ∷ [])) → Apart 0 (xs ++ (s ∷ [])) → Fit c (xs ++ ((s.0, c) ∷ []))
longer_fits c xs s b a = record {
  below = below_push (c + 1) xs (s.0, c) (below_wider c (c + 1) xs (omega arith) (below_front c xs s b).0) (omega arith);
  apart = apart_longer 0 xs s (s.0, c) refl a;
}

pub next_fits : (c : ℕ) (xs : List Ends) (s : Ends) → Below c (xs ++ (s ∷ [])) → Apart 0 (xs ++ (s ∷ [])) → (s.1 + 1 ≡ c → ⊥) → Fit c (xs ++ (s ∷ (c, c) ∷ []))
next_fits c xs s b a n =
    let f = below_front c xs s b in
    record {
      below = subst (Below (c + 1)) (append_assoc xs (s ∷ []) ((c, c) ∷ [])) (below_push (c + 1) (xs ++ (s ∷ [])) (c, c) (below_wider c (c + 1) (xs ++ (s ∷ [])) (omega arith) b) (omega arith));
      apart = apart_next 0 xs s (c, c) a (apart_gap s.1 c f.1 n);
    }
  where
    apart_gap : (l c : ℕ) → l < c → (l + 1 ≡ c → ⊥) → l + 2 ≤ c
    apart_gap l c h n = omega (arith, h, n)

pub skip_fits : (c : ℕ) (xs : List Ends) → Below c xs → Below (c + 1) xs
skip_fits c xs b = below_wider c (c + 1) xs (omega arith) b

-- the same of spans as the code has them
pub span_longer : (c : ℕ) (old xs new : List Span) (top next : Span) → old ≡ xs ++ (top ∷ []) → new ≡ xs ++ (next ∷ []) → ends next ≡ (top.first, c) → Below c (map ends old) → Apart 0 (map ends old) → Fit c (map ends new)
span_longer c old xs new top next o n e b a =
    let was : map ends old ≡ map ends xs ++ (ends top ∷ []) = ap (λ (l : List Span). map ends l) o ∙ map-append ends xs (top ∷ []) in
    let is : map ends new ≡ map ends xs ++ ((top.first, c) ∷ []) = ap (λ (l : List Span). map ends l) n ∙ map-append ends xs (next ∷ []) ∙ ap (λ (s : Ends). map ends xs ++ (s ∷ [])) e in
    subst (Fit c) (sym is) (longer_fits c (map ends xs) (ends top) (subst (Below c) was b) (subst (Apart 0) was a))

pub span_next : (c : ℕ) (old xs mid new : List Span) (top lone : Span) → old ≡ xs ++ (top ∷ []) → mid ≡ xs ++ (top ∷ []) → new ≡ mid ++ (lone ∷ []) → ends lone ≡ (c, c) → (top.last + 1 ≡ c → ⊥) → Below c (map ends old) → Apart 0 (map ends old) → Fit c (map ends new)
span_next c old xs mid new top lone o m n e far b a =
    let was : map ends old ≡ map ends xs ++ (ends top ∷ []) = ap (λ (l : List Span). map ends l) o ∙ map-append ends xs (top ∷ []) in
    let whole : new ≡ xs ++ (top ∷ lone ∷ []) = n ∙ ap (λ (l : List Span). l ++ (lone ∷ [])) m ∙ append_assoc xs (top ∷ []) (lone ∷ []) in
    let is : map ends new ≡ map ends xs ++ (ends top ∷ (c, c) ∷ []) = ap (λ (l : List Span). map ends l) whole ∙ map-append ends xs (top ∷ lone ∷ []) ∙ ap (λ (s : Ends). map ends xs ++ (ends top ∷ s ∷ [])) e in
    subst (Fit c) (sym is) (next_fits c (map ends xs) (ends top) (subst (Below c) was b) (subst (Apart 0) was a) far)

-- one channel more is passed
with_it : (l m h : Bool) (c n : ℕ) → m ≡ (l || (c == n)) → l ≡ (nat_lt c n && h) → (c ≡ n → h ≡ true) → m ≡ (nat_lt c (n + 1) && h)
with_it l m true c n e f g = rw (e, f) (grind (arith, nat_tests))
with_it l m false c n e f g = rw (e, f) (grind (arith, nat_tests, g))

without_it : (l h : Bool) (c n : ℕ) → l ≡ (nat_lt c n && h) → (c ≡ n → h ≡ false) → l ≡ (nat_lt c (n + 1) && h)
without_it l true c n f g = rw f (grind (arith, nat_tests, g))
without_it l false c n f g = rw f (grind (arith, nat_tests))

in_set : (set n : ℕ) (r : Bool) → r ≡ (nat_lt n 64 && has set n) → n < 64 → r ≡ has set n
in_set set n r e h = grind (arith, nat_tests)

pub passed_with : (set n : ℕ) (xs ys : List Ends) (r : Bool) → n < 64 → r ≡ (nat_lt n 64 && has set n) → r ≡ true → ((c : ℕ) → listed ys c ≡ (listed xs c || (c == n))) → ((c : ℕ) → listed xs c ≡ (nat_lt c n && has set c)) → (c : ℕ) → listed ys c ≡ (nat_lt c (n + 1) && has set c)
passed_with set n xs ys r h e t f g c = with_it (listed xs c) (listed ys c) (has set c) c n (f c) (g c) (λ k. ap (has set) k ∙ sym (in_set set n r e h) ∙ t)

pub passed_without : (set n : ℕ) (xs : List Ends) (r : Bool) → n < 64 → r ≡ (nat_lt n 64 && has set n) → r ≡ false → ((c : ℕ) → listed xs c ≡ (nat_lt c n && has set c)) → (c : ℕ) → listed xs c ≡ (nat_lt c (n + 1) && has set c)
passed_without set n xs r h e t g c = without_it (listed xs c) (has set c) c n (g c) (λ k. ap (has set) k ∙ sym (in_set set n r e h) ∙ t)
