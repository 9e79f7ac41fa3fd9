-- Counting the elements of a list that pass a test; all choices are in the list of them.
use Rattle.std.proofs.Common.{◌≡◌, ℕ, zero, suc, ◌+◌, ◌*◌, ◌<◌, ◌≤◌, Bool, true, false, cond, ◌⊎◌, List, [], ◌∷◌, ◌++◌, map, length, get_or, sym, refl, ap, ◌∙◌, inl, inr, not-suc-le-zero, arith, length-append}
use lib.ListN.{length-map}
use Rattle.std.proofs.lemmas.Bool.{both_ways, cases_eq, false≢true, true≢false}
use Rattle.rules.specs.Channels.{has}
use Rattle.rules.specs.Plans.{Listed}
use Rattle.model.specs.Choices.{below, channels, fronts, choices, combinations}

-- How many elements pass the test.
abbrev pub count : {A : Type 0} → (A → Bool) → List A → ℕ
count p [] = 0
count p (x ∷ xs) = cond (p x) (suc (count p xs)) (count p xs)

abbrev pub In : {A : Type 0} → A → List A → Type 0
In y [] = ⊥
In y (x ∷ xs) = (x ≡ y) ⊎ In y xs

module _ {A : Type 0} where
  pub in_left : (y : A) (xs ys : List A) → In y xs → In y (xs ++ ys)
  in_left y [] ys i = absurd i
  in_left y (x ∷ xs) ys (inl e) = inl e
  in_left y (x ∷ xs) ys (inr i) = inr (in_left y xs ys i)

  pub in_right : (y : A) (xs ys : List A) → In y ys → In y (xs ++ ys)
  in_right y [] ys i = i
  in_right y (x ∷ xs) ys i = inr (in_right y xs ys i)

  pub count_all : (xs : List A) → count (λ (x : A). true) xs ≡ length xs
  count_all [] = refl
  count_all (x ∷ xs) = ap suc (count_all xs)

-- One more element, on both sides.
step-≤ : (b c : Bool) (m n : ℕ) → (b ≡ true → c ≡ true) → m ≤ n → cond b (suc m) m ≤ cond c (suc n) n
step-≤ true true m n f h = omega arith
step-≤ true false m n f h = absurd (false≢true (f refl))
step-≤ false true m n f h = omega arith
step-≤ false false m n f h = h

step-< : (b c : Bool) (m n : ℕ) → (b ≡ true → c ≡ true) → m < n → cond b (suc m) m < cond c (suc n) n
step-< true true m n f h = omega arith
step-< true false m n f h = absurd (false≢true (f refl))
step-< false true m n f h = omega arith
step-< false false m n f h = h

new-< : (b c : Bool) (m n : ℕ) → b ≡ false → c ≡ true → m ≤ n → cond b (suc m) m < cond c (suc n) n
new-< true c m n e f h = absurd (true≢false e)
new-< false true m n e f h = omega arith
new-< false false m n e f h = absurd (false≢true f)

module _ {A : Type 0} (p q : A → Bool) (p-q : (x : A) → p x ≡ true → q x ≡ true) where
  pub count_mono : (xs : List A) → count p xs ≤ count q xs
  count_mono [] = omega arith
  count_mono (x ∷ xs) = step-≤ (p x) (q x) (count p xs) (count q xs) (p-q x) (count_mono xs)

  pub count_less : (y : A) → p y ≡ false → q y ≡ true → (xs : List A) → In y xs → count p xs < count q xs
  count_less y no' yes' [] i = absurd i
  count_less y no' yes' (x ∷ xs) (inl e) = new-< (p x) (q x) (count p xs) (count q xs) (rw e no') (rw e yes') (count_mono xs)
  count_less y no' yes' (x ∷ xs) (inr i) = step-< (p x) (q x) (count p xs) (count q xs) (p-q x) (count_less y no' yes' xs i)

pub count-≤ : {A : Type 0} (p : A → Bool) (xs : List A) → count p xs ≤ length xs
count-≤ {A} p xs = omega (arith, count_all xs, count_mono p (λ (x : A). true) (λ x e. refl) xs)

pub count-< : {A : Type 0} (p : A → Bool) (y : A) (xs : List A) → p y ≡ false → In y xs → count p xs < length xs
count-< {A} p y xs no' i = omega (arith, count_all xs, count_less p (λ (x : A). true) (λ x e. refl) y no' refl xs i)

-- The list of all choices has as many as there are combinations, and has each.
pub length_fronts : (es : List ℕ) (xs : List (List ℕ)) → length (fronts es xs) ≡ length es * length xs
length_fronts [] xs = omega arith
length_fronts (e ∷ es) xs = omega (arith, length-append (map (λ x. e ∷ x) xs) (fronts es xs), length-map xs (λ x. e ∷ x), length_fronts es xs)

one_more : (a b : ℕ) → suc a * b ≡ (1 + a) * b
one_more a b = omega arith

pub length_choices : (ms : List ℕ) → length (choices ms) ≡ combinations ms
length_choices [] = refl
length_choices (m ∷ ms) = length_fronts (64 ∷ channels m) (choices ms) ∙ (ap (λ n. suc (length (channels m)) * n) (length_choices ms) ∙ one_more (length (channels m)) (combinations ms))

in_map : (e : ℕ) (x : List ℕ) (xs : List (List ℕ)) → In x xs → In (e ∷ x) (map (λ x. e ∷ x) xs)
in_map e x [] i = absurd i
in_map e x (y ∷ xs) (inl q) = inl (ap (λ y. e ∷ y) q)
in_map e x (y ∷ xs) (inr i) = inr (in_map e x xs i)

in_fronts : (e : ℕ) (x : List ℕ) (es : List ℕ) (xs : List (List ℕ)) → In e es → In x xs → In (e ∷ x) (fronts es xs)
in_fronts e x [] xs i j = absurd i
in_fronts e x (f ∷ es) xs (inl q) j = in_left (e ∷ x) (map (λ y. f ∷ y) xs) (fronts es xs) (rw q (in_map e x xs j))
in_fronts e x (f ∷ es) xs (inr i) j = in_right (e ∷ x) (map (λ y. f ∷ y) xs) (fronts es xs) (in_fronts e x es xs i j)

in_below : (m c k : ℕ) → has m c ≡ true → c < k → In c (below m k)
in_below m c zero h l = absurd (not-suc-le-zero l)
in_below m c (suc k) h l = go (has m k) refl (cases_eq k c) (λ l. in_below m c k h l)
  where
    go : (b : Bool) → has m k ≡ b → (k ≡ c) ⊎ (k ≡ c → ⊥) → (c < k → In c (below m k)) → In c (cond b (k ∷ []) [] ++ below m k)
    go true e (inl q) f = inl q
    go true e (inr q) f = inr (f (omega arith))
    go false e (inl q) f = absurd (both_ways (has m k) e (rw q h))
    go false e (inr q) f = f (omega arith)

-- A choice, by its numbers: 64, or a listed channel.
abbrev pub Entries : List ℕ → List ℕ → Type 0
Entries ms x = (g : ℕ) → g < length ms → (get_or x g 64 ≡ 64) ⊎ Listed ms g (get_or x g 64)

pub in_choices : (ms x : List ℕ) → length x ≡ length ms → Entries ms x → In x (choices ms)
in_choices [] [] e f = inl refl
in_choices [] (c ∷ x) e f = absurd (let z : ◌≡◌ {A = ℕ} 0 1 = omega arith in not_zero z)
  where
    not_zero : ◌≡◌ {A = ℕ} 0 1 → ⊥
    not_zero e = omega arith
in_choices (m ∷ ms) [] e f = absurd (wrong e)
  where
    wrong : ◌≡◌ {A = ℕ} 0 (suc (length ms)) → ⊥
    wrong e = omega arith
in_choices (m ∷ ms) (c ∷ x) e f = in_fronts c x (64 ∷ channels m) (choices ms) (first (f 0 (omega arith))) (in_choices ms x (omega arith) rest)
  where
    first : (c ≡ 64) ⊎ Listed (m ∷ ms) 0 c → In c (64 ∷ channels m)
    first (inl q) = inl (sym q)
    first (inr l) = inr (in_below m c 64 l.bit l.channel)

    down : (g : ℕ) → (get_or x g 64 ≡ 64) ⊎ Listed (m ∷ ms) (suc g) (get_or x g 64) → (get_or x g 64 ≡ 64) ⊎ Listed ms g (get_or x g 64)
    down g (inl q) = inl q
    down g (inr l) = inr (record { group = omega (arith, l.group); channel = l.channel; bit = l.bit })

    rest : Entries ms x
    rest g h = down g (f (suc g) (omega arith))
