-- A list that is written says its spans.
use Rattle.std.proofs.Common.{◌≡◌, ℕ, suc, ◌+◌, ◌^◌, ◌<◌, ◌≤◌, ◌==◌, Bool, true, false, ◌&&◌, cond, List, [], ◌∷◌, ◌++◌, length, map, take, drop, Some, None, Ok, refl, ap, ◌∙◌, arith, nat_lt, decimal, length-append, append-nil}
use Rattle.std.proofs.lemmas.Bool.Decides.{nat_tests}
use Rattle.std.proofs.lemmas.Fmt.{digits_decimal, digits_value-decimal, decimal_nonempty}
use Rattle.std.proofs.lemmas.List.Splits.{slice_split_first}
use Rattle.std.proofs.Math.Seq.{take-append_seam, drop-append-add, take-length}
use Rattle.std.specs.Char.{is_ascii_digit}
use Rattle.std.specs.List.{position_or_len, flat_map}
use Rattle.std.specs.Str.{all_ascii_digits}
use Rattle.text.specs.declared.span.Span.{Span}
use Rattle.text.specs.declared.fault.Expected.TheVariants.{Channel}
use Rattle.text.specs.Words.{has_byte, before, behind, due, channel_said}
use Rattle.text.specs.Lists.{ends, spanned, span_said, onto, spans_said, pieces, list_said, span_text, list_text}
use Rattle.text.proofs.Numbers.{own}
use Rattle.text.proofs.Readings.{one_piece}

-- a text has no byte c
abbrev pub Free : ℕ → List ℕ → Type 0
Free c [] = Unit {0}
Free c (x ∷ xs) = ((x == c) ≡ false) × Free c xs

free_append : (c : ℕ) (xs ys : List ℕ) → Free c xs → Free c ys → Free c (xs ++ ys)
free_append c [] ys f g = g
free_append c (x ∷ xs) ys f g = (f.0, free_append c xs ys f.1 g)

head_digit : (c x : ℕ) (r : Bool) → (is_ascii_digit x && r) ≡ true → is_ascii_digit c ≡ false → ((x == c) ≡ false) × (r ≡ true)
head_digit c x true h k = (grind (arith, nat_tests), refl)
head_digit c x false h k = absurd (grind (arith, nat_tests))

digits_free : (c : ℕ) (ds : List ℕ) → is_ascii_digit c ≡ false → all_ascii_digits ds ≡ true → Free c ds
digits_free c [] k h = tt
digits_free c (x ∷ xs) k h =
    let d = head_digit c x (all_ascii_digits xs) h k in
    (d.0, digits_free c xs k d.1)

-- the place of a byte in a text without it, and behind one
free_place : (c : ℕ) (xs : List ℕ) → Free c xs → position_or_len (λ b. b == c) xs ≡ length xs
free_place c [] f = refl
free_place c (x ∷ xs) f = rw f.0 (omega (arith, free_place c xs f.1))

same : (n : ℕ) → (n == n) ≡ true
same n = grind (arith, nat_tests)

first_at : (c : ℕ) (xs ys : List ℕ) → Free c xs → position_or_len (λ b. b == c) (xs ++ (c ∷ ys)) ≡ length xs
first_at c [] ys f = rw (same c) refl
first_at c (x ∷ xs) ys f = rw f.0 (omega (arith, first_at c xs ys f.1))

longer : (n m : ℕ) → nat_lt n (n + suc m) ≡ true
longer n m = grind (arith, nat_tests)

not_longer : (n m : ℕ) → n ≡ m → nat_lt n m ≡ false
not_longer n m h = grind (arith, nat_tests)

before_it : (c : ℕ) (xs ys : List ℕ) → Free c xs → before c (xs ++ (c ∷ ys)) ≡ xs
before_it c xs ys f = ap (λ n. take n (xs ++ (c ∷ ys))) (first_at c xs ys f) ∙ take-append_seam xs (c ∷ ys)

behind_it : (c : ℕ) (xs ys : List ℕ) → Free c xs → behind c (xs ++ (c ∷ ys)) ≡ ys
behind_it c xs ys f = ap (λ n. drop (n + 1) (xs ++ (c ∷ ys))) (first_at c xs ys f) ∙ drop-append-add xs (c ∷ ys) 1

has_it : (c : ℕ) (xs ys : List ℕ) → Free c xs → has_byte c (xs ++ (c ∷ ys)) ≡ true
has_it c xs ys f =
    let long : length (xs ++ (c ∷ ys)) ≡ length xs + suc (length ys) = length-append xs (c ∷ ys) in
    ap (λ n. nat_lt n (length (xs ++ (c ∷ ys)))) (first_at c xs ys f) ∙ ap (λ m. nat_lt (length xs) m) long ∙ longer (length xs) (length ys)

lacks_it : (c : ℕ) (xs : List ℕ) → Free c xs → has_byte c xs ≡ false
lacks_it c xs f = not_longer _ _ (free_place c xs f)

all_before : (c : ℕ) (xs : List ℕ) → Free c xs → before c xs ≡ xs
all_before c xs f = ap (λ n. take n xs) (free_place c xs f) ∙ take-length xs

-- a channel is written as a word that says it
said_by : (w : List ℕ) (n v : ℕ) → all_ascii_digits w ≡ true → 0 < length w → v ≡ n → n < 64 → cond (nat_lt 0 (length w) && all_ascii_digits w && nat_lt v 64) (Some v) None ≡ Some n
said_by w n v d l e h = grind (arith, nat_tests)

small : (n : ℕ) → n < 64 → n < 2 ^ 64
small n h = omega (arith, h)

number_read : (n : ℕ) → n < 64 → channel_said (decimal n) ≡ Ok n
number_read n h = ap (due Channel (decimal n)) (said_by (decimal n) n _ (digits_decimal own n (small n h)) (decimal_nonempty n (small n h)) (digits_value-decimal own n (small n h)) h)

decimal_free : (c n : ℕ) → is_ascii_digit c ≡ false → n < 64 → Free c (decimal n)
decimal_free c n k h = digits_free c (decimal n) k (digits_decimal own n (small n h))

spanned_some : (w : List ℕ) (a b : ℕ) → a ≤ b → spanned w (Ok a) (Ok b) ≡ Ok (a, b)
spanned_some w a b h = grind (arith, nat_tests)

one_said : (a : ℕ) → a < 64 → span_said (decimal a) ≡ Ok (a, a)
one_said a h =
    let f = decimal_free 45 a refl h in
    let front : before 45 (decimal a) ≡ decimal a = all_before 45 (decimal a) f in
    let back : cond (has_byte 45 (decimal a)) (behind 45 (decimal a)) (decimal a) ≡ decimal a = ap (λ b. cond b (behind 45 (decimal a)) (decimal a)) (lacks_it 45 (decimal a) f) in
    ap (λ w. spanned (decimal a) (channel_said w) (channel_said (cond (has_byte 45 (decimal a)) (behind 45 (decimal a)) (decimal a)))) front
    ∙ ap (λ w. spanned (decimal a) (channel_said (decimal a)) (channel_said w)) back
    ∙ ap (λ o. spanned (decimal a) o o) (number_read a h)
    ∙ spanned_some (decimal a) a a (omega arith)

two_said : (a b : ℕ) → a ≤ b → b < 64 → span_said (decimal a ++ (45 ∷ decimal b)) ≡ Ok (a, b)
two_said a b h k =
    let f = decimal_free 45 a refl (omega (arith, h, k)) in
    let w : List ℕ = decimal a ++ (45 ∷ decimal b) in
    let front : before 45 w ≡ decimal a = before_it 45 (decimal a) (decimal b) f in
    let back : cond (has_byte 45 w) (behind 45 w) w ≡ decimal b = ap (λ t. cond t (behind 45 w) w) (has_it 45 (decimal a) (decimal b) f) ∙ behind_it 45 (decimal a) (decimal b) f in
    ap (λ v. spanned w (channel_said v) (channel_said (cond (has_byte 45 w) (behind 45 w) w))) front
    ∙ ap (λ v. spanned w (channel_said (decimal a)) (channel_said v)) back
    ∙ ap (λ o. spanned w o (channel_said (decimal b))) (number_read a (omega (arith, h, k)))
    ∙ ap (λ o. spanned w (Ok a) o) (number_read b k)
    ∙ spanned_some w a b h

equal : (a b : ℕ) → (a == b) ≡ true → a ≡ b
equal a b h = grind (arith, nat_tests)

span_read : (a b : ℕ) (t : Bool) → (a == b) ≡ t → a ≤ b → b < 64 → span_said (span_text (a, b)) ≡ Ok (a, b)
span_read a b true e h k = rw e (one_said a (omega (arith, h, k)) ∙ ap (λ n. Ok (a, n)) (equal a b e))
span_read a b false e h k = rw e (two_said a b h k)

span_free : (a b : ℕ) (t : Bool) → (a == b) ≡ t → a ≤ b → b < 64 → Free 44 (span_text (a, b))
span_free a b true e h k = rw e (decimal_free 44 a refl (omega (arith, h, k)))
span_free a b false e h k = rw e (free_append 44 (decimal a) (45 ∷ decimal b) (decimal_free 44 a refl (omega (arith, h, k))) (refl, decimal_free 44 b refl k))

cut_at : (xs ys : List ℕ) → Free 44 xs → pieces (xs ++ (44 ∷ ys)) ≡ xs ∷ pieces ys
cut_at xs ys f =
    let within : position_or_len (λ b. b == 44) (xs ++ (44 ∷ ys)) < length (xs ++ (44 ∷ ys)) = omega (arith, first_at 44 xs ys f, length-append xs (44 ∷ ys)) in
    slice_split_first (λ b. b == 44) (xs ++ (44 ∷ ys)) 0 within
    ∙ ap (λ w. w ∷ pieces (behind 44 (xs ++ (44 ∷ ys)))) (before_it 44 xs ys f)
    ∙ ap (λ w. xs ∷ pieces w) (behind_it 44 xs ys f)

-- the spans in a text, with a comma before each but the first
abbrev pub more_text : List Span → List ℕ
more_text ss = flat_map (λ t. 44 ∷ span_text (ends t)) ss

spans_read : (s : Span) (ss : List Span) → spans_said (pieces (span_text (ends s) ++ more_text ss)) ≡ Ok (ends s ∷ map ends ss)
spans_read s [] =
    let f = span_free s.first s.last (s.first == s.last) refl (omega arith) (omega arith) in
    let whole : span_text (ends s) ++ [] ≡ span_text (ends s) = append-nil (span_text (ends s)) in
    ap (λ w. spans_said (pieces w)) whole
    ∙ ap spans_said (one_piece (λ b. b == 44) (span_text (ends s)) (free_place 44 (span_text (ends s)) f))
    ∙ ap (λ o. onto o (Ok [])) (span_read s.first s.last (s.first == s.last) refl (omega arith) (omega arith))
spans_read s (t ∷ ts) =
    let f = span_free s.first s.last (s.first == s.last) refl (omega arith) (omega arith) in
    ap spans_said (cut_at (span_text (ends s)) (span_text (ends t) ++ more_text ts) f)
    ∙ ap (λ o. onto o (spans_said (pieces (span_text (ends t) ++ more_text ts)))) (span_read s.first s.last (s.first == s.last) refl (omega arith) (omega arith))
    ∙ ap (λ o. onto (Ok (ends s)) o) (spans_read t ts)

some_length : (a b : ℕ) (t : Bool) → (a == b) ≡ t → a ≤ b → b < 64 → 0 < length (span_text (a, b))
some_length a b true e h k = rw e (decimal_nonempty a (small a (omega (arith, h, k))))
some_length a b false e h k = rw e (omega (arith, length-append (decimal a) (45 ∷ decimal b)))

not_empty : (n : ℕ) → 0 < n → (n == 0) ≡ false
not_empty n h = grind (arith, nat_tests)

pub list_read : (ss : List Span) → list_said (drop 1 (list_text ss)) ≡ Ok (map ends ss)
list_read [] = refl
list_read (s ∷ ss) =
    let w : List ℕ = span_text (ends s) ++ more_text ss in
    let long : 0 < length w = omega (arith, some_length s.first s.last (s.first == s.last) refl (omega arith) (omega arith), length-append (span_text (ends s)) (more_text ss)) in
    ap (λ b. cond b (Ok []) (spans_said (pieces w))) (not_empty (length w) long) ∙ spans_read s ss
