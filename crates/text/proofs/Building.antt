-- What lines build, and that the writer of jobs takes it.
use Rattle.std.proofs.Common.{◌≡◌, ℕ, ◌+◌, ◌<◌, ◌≤◌, ◌==◌, Bool, true, false, cond, List, [], ◌∷◌, ◌++◌, length, take, Some, None, Option, MatchOption, Bor, not, refl, sym, ◌∙◌, ap, subst, arith, nat_lt, append_assoc, append-nil, length-append}
use Rattle.std.proofs.lemmas.Bool.Decides.{nat_tests}
use Rattle.std.proofs.lemmas.List.Splits.{slice_split_first}
use Rattle.std.proofs.lemmas.List.{length-drop, length-take-le}
use Rattle.std.proofs.lemmas.List.Sums.{prefix_len-le-length}
use Rattle.std.proofs.Math.Seq.{take-length}
use Rattle.std.specs.List.{position_or_len}
use Rattle.std.specs.Option.{option_copied}
use Rattle.text.specs.declared.fault.Wrong.{Wrong}
use Rattle.text.specs.Words.{has_byte, before, behind}
use Rattle.text.specs.Drafts.{Made, nothing, Takes, Refuses, lines, Builds, Stuck}
use Rattle.text.proofs.Readings.{one_piece}

-- one line more
pub builds_more : (m : Made) (ws : List (List ℕ)) (w : List ℕ) (k n : Made) → Builds m ws k → Takes k w n → Builds m (ws ++ (w ∷ [])) n
builds_more m [] w k n b t = (n, subst (λ (x : Made). Takes x w n) b t, refl)
builds_more m (v ∷ ws) w k n b t = (b.0, b.1, builds_more b.0 ws w k n b.2 t)

-- the lines that are left
abbrev pub left : Option (List ℕ) → List (List ℕ)
left None = []
left (Some bs) = lines bs

abbrev pub bytes_left : Option (List ℕ) → ℕ
bytes_left None = 0
bytes_left (Some bs) = length bs + 1

-- a text of which n lines are taken in
pub record Reads (text : List ℕ) (rest : Option (List ℕ)) (n : ℕ) (m : Made) : Type 0 where
  pub seen : List (List ℕ)
  pub split : lines text ≡ seen ++ left rest
  pub count : length seen ≡ n
  pub room : n + bytes_left rest ≤ length text + 1
  pub builds : Builds nothing seen m

pub reads_first : (text : List ℕ) → Reads text (Some text) 0 nothing
reads_first text = record { seen = []; split = refl; count = refl; room = omega arith; builds = refl }

-- what `position` gives, as whether the text has the byte
pub found : (p n : ℕ) (b : Bool) → Some n ≡ cond b (Some p) None → (b ≡ true) × (n ≡ p)
found p n true e = (refl, cc)
found p n false e = absurd (let z : ⊥ = cc in z)

pub missing : (p : ℕ) (b : Bool) → None ≡ cond b (Some p) None → b ≡ false
missing p true e = absurd (let z : ⊥ = cc in z)
missing p false e = refl

below : (n m : ℕ) → nat_lt n m ≡ true → n < m
below n m h = grind (arith, nat_tests)

not_below : (n m : ℕ) → nat_lt n m ≡ false → m ≤ n
not_below n m h = grind (arith, nat_tests)

-- a text with no end of a line is one line
pub one_line : (text : List ℕ) → has_byte 10 text ≡ false → lines text ≡ text ∷ []
one_line text h = one_piece (λ b. b == 10) text (omega (arith, not_below _ _ h, prefix_len-le-length (λ b. not (b == 10)) text))

-- and all of it stands before the first end
pub no_byte : (text : List ℕ) → has_byte 10 text ≡ false → text ≡ before 10 text
no_byte text h = sym (ap (λ n. take n text) (omega (arith, not_below _ _ h, prefix_len-le-length (λ b. not (b == 10)) text)) ∙ take-length text)

-- what the cut of a line leaves
pub cut_left : (text first : List ℕ) (more : Option (List ℕ)) → first ≡ before 10 text → MatchOption more (has_byte 10 text ≡ false) (λ r. (has_byte 10 text ≡ true) × (r ≡ behind 10 text)) → (lines text ≡ first ∷ left more) × (bytes_left more + length first ≤ length text)
cut_left text first None f h =
    let whole : first ≡ text = f ∙ sym (no_byte text h) in
    let one : lines text ≡ first ∷ [] = one_line text h ∙ ap (λ x. x ∷ []) (sym whole) in
    (one, omega (arith, ap length whole))
cut_left text first (Some r) f h =
    let within = below _ _ h.0 in
    let l : lines text ≡ first ∷ lines r = rw (f, h.1) (slice_split_first (λ b. b == 10) text 0 within) in
    (l, omega (arith, within, ap length f, ap length h.1, length-take-le (position_or_len (λ b. b == 10) text) text (omega (arith, within)), length-drop (position_or_len (λ b. b == 10) text + 1) text))

-- a line is taken in
pub reads_more : (text rest first : List ℕ) (more : Option (List ℕ)) (k : ℕ) (m n : Made) → Reads text (Some rest) k m → (lines rest ≡ first ∷ left more) × (bytes_left more + length first ≤ length rest) → Takes m first n → Reads text more (k + 1) n
reads_more text rest first more k m n r h t = record {
  seen = r.seen ++ (first ∷ []);
  split = r.split ∙ ap (λ ls. r.seen ++ ls) h.0 ∙ sym (append_assoc r.seen (first ∷ []) (left more));
  count = length-append r.seen (first ∷ []) ∙ ap (λ x. x + 1) r.count;
  room = omega (arith, r.room, h.1);
  builds = builds_more nothing r.seen first m n r.builds t;
}

-- a line is not
pub reads_stuck : (text rest first : List ℕ) (more : Option (List ℕ)) (k : ℕ) (m : Made) (x : Wrong) → Reads text (Some rest) k m → lines rest ≡ first ∷ left more → Refuses m first x → Stuck text k x
reads_stuck text rest first more k m x r h f = record {
  before = r.seen;
  line = first;
  behind = left more;
  made = m;
  split = r.split ∙ ap (λ ls. r.seen ++ ls) h;
  count = r.count;
  builds = r.builds;
  refuses = f;
}

-- all lines are
pub reads_all : (text : List ℕ) (k : ℕ) (m : Made) → Reads text None k m → Builds nothing (lines text) m
reads_all text k m r = subst (λ (ls : List (List ℕ)). Builds nothing ls m) (sym (r.split ∙ append-nil r.seen)) r.builds

-- the same of a borrowed text
pub copied_match : (o : Option (Bor (List ℕ))) (P : Type 0) (Q : List ℕ → Type 0) → MatchOption o P (λ r. Q r.now) → MatchOption (option_copied o) P Q
copied_match None P Q h = h
copied_match (Some r) P Q h = h
