-- A list that is read from the front, word by word.
use Rattle.std.proofs.Common.{◌≡◌, ℕ, ◌<◌, Bool, true, false, ◌||◌, List, [], ◌∷◌, ◌++◌, length, Ok, Err, Result, arith, refl, sym, ◌∙◌, ap, ◌==◌, append_assoc}
use Rattle.std.proofs.lemmas.List.Splits.{slice_split-cons_no, slice_split_first}
use Rattle.std.specs.List.{slice_split, onto_first, position_or_len}
use Rattle.rules.specs.Channels.{has}
use Rattle.text.specs.Words.{Missing, before, behind}
use Rattle.text.specs.Lists.{Ends, covers, listed, span_said, onto, spans_said, pieces, list_said}
use Rattle.text.proofs.Spans.{listed_push}

-- a text without the byte at which it is cut is one piece
last_step : {X : Type 0} (p : X → Bool) (x : X) (xs : List X) (b : Bool) → p x ≡ b → position_or_len p (x ∷ xs) ≡ length (x ∷ xs) → (position_or_len p xs ≡ length xs → slice_split p xs ≡ xs ∷ []) → slice_split p (x ∷ xs) ≡ (x ∷ xs) ∷ []
last_step p x xs true t e h = absurd (omega (arith, rw t at e))
last_step p x xs false f e h = slice_split-cons_no p x xs f ∙ ap (onto_first x) (h (omega (arith, rw f at e)))

pub one_piece : {X : Type 0} (p : X → Bool) (xs : List X) → position_or_len p xs ≡ length xs → slice_split p xs ≡ xs ∷ []
one_piece p [] e = refl
one_piece p (x ∷ xs) e = last_step p x xs (p x) refl e (one_piece p xs)

-- some spans in front of those that the rest says
abbrev pub preceded : List Ends → Result (List Ends) Missing → Result (List Ends) Missing
preceded seen (Err x) = Err x
preceded seen (Ok ss) = Ok (seen ++ ss)

preceded_onto : (seen : List Ends) (s : Ends) (o : Result (List Ends) Missing) → preceded seen (onto (Ok s) o) ≡ preceded (seen ++ (s ∷ [])) o
preceded_onto seen s (Err x) = refl
preceded_onto seen s (Ok ss) = ap Ok (sym (append_assoc seen (s ∷ []) ss))

pub preceded_none : (o : Result (List Ends) Missing) → preceded [] o ≡ o
preceded_none (Err x) = refl
preceded_none (Ok ss) = refl

-- up to the rest, the words of the text say spans, and the set has their channels
pub record Reading (text rest : List ℕ) (set : ℕ) : Type 0 where
  pub seen : List Ends
  pub said : spans_said (pieces text) ≡ preceded seen (spans_said (pieces rest))
  pub lists : (c : ℕ) → has set c ≡ listed seen c

-- one word more
pub reading_more : (text rest word more : List ℕ) (set next : ℕ) (s : Ends) → Reading text rest set → position_or_len (λ b. b == 44) rest < length rest → word ≡ before 44 rest → more ≡ behind 44 rest → span_said word ≡ Ok s → ((c : ℕ) → has next c ≡ (has set c || covers s c)) → Reading text more next
reading_more text rest word more set next s r within w m said adds =
    let cut : pieces rest ≡ word ∷ pieces more = rw (w, m) (slice_split_first (λ b. b == 44) rest 0 within) in
    let step : spans_said (pieces rest) ≡ onto (Ok s) (spans_said (pieces more)) = ap spans_said cut ∙ ap (λ o. onto o (spans_said (pieces more))) said in
    record {
      seen = r.seen ++ (s ∷ []);
      said = r.said ∙ ap (preceded r.seen) step ∙ preceded_onto r.seen s (spans_said (pieces more));
      lists = λ c. adds c ∙ ap (λ b. b || covers s c) (r.lists c) ∙ sym (listed_push r.seen s c);
    }

-- a word that says no span
pub reading_stuck : (text rest word : List ℕ) (set : ℕ) (x : Missing) → Reading text rest set → position_or_len (λ b. b == 44) rest < length rest → word ≡ before 44 rest → span_said word ≡ Err x → spans_said (pieces text) ≡ Err x
reading_stuck text rest word set x r within w said =
    let cut : pieces rest ≡ word ∷ pieces (behind 44 rest) = rw w (slice_split_first (λ b. b == 44) rest 0 within) in
    r.said ∙ ap (preceded r.seen) (ap spans_said cut ∙ ap (λ o. onto o (spans_said (pieces (behind 44 rest)))) said)

-- the last word says a span
pub reading_ends : (text rest : List ℕ) (set next : ℕ) (s : Ends) → Reading text rest set → position_or_len (λ b. b == 44) rest ≡ length rest → span_said rest ≡ Ok s → ((c : ℕ) → has next c ≡ (has set c || covers s c)) → (ss : List Ends) × (spans_said (pieces text) ≡ Ok ss) × ((c : ℕ) → has next c ≡ listed ss c)
reading_ends text rest set next s r none said adds =
    let cut : pieces rest ≡ rest ∷ [] = one_piece (λ b. b == 44) rest none in (
      r.seen ++ (s ∷ []),
      r.said ∙ ap (preceded r.seen) (ap spans_said cut ∙ ap (λ o. onto o (Ok [])) said),
      λ c. adds c ∙ ap (λ b. b || covers s c) (r.lists c) ∙ sym (listed_push r.seen s c),
    )

-- or it says none
pub reading_fails : (text rest : List ℕ) (set : ℕ) (x : Missing) → Reading text rest set → position_or_len (λ b. b == 44) rest ≡ length rest → span_said rest ≡ Err x → spans_said (pieces text) ≡ Err x
reading_fails text rest set x r none said =
    let cut : pieces rest ≡ rest ∷ [] = one_piece (λ b. b == 44) rest none in
    r.said ∙ ap (preceded r.seen) (ap spans_said cut ∙ ap (λ o. onto o (Ok [])) said)

-- before the first word
pub reading_starts : (text : List ℕ) → ((c : ℕ) → has 0 c ≡ false) → Reading text text 0
reading_starts text h = record { seen = []; said = sym (preceded_none (spans_said (pieces text))); lists = h }

-- a text that is not empty says what its words do
pub list_is : (text : List ℕ) (o : Result (List Ends) Missing) → (length text == 0) ≡ false → spans_said (pieces text) ≡ o → list_said text ≡ o
list_is text o e h = rw (e, h) refl
