-- What a list of channels says, and how one is written. Assumes nothing.
use Rattle.std.specs.Prelude.{ℕ, ◌+◌, ◌<◌, ◌≤◌, Bool, cond, ◌&&◌, List, [], ◌∷◌, ◌++◌, length, Ok, Err, Result, ◌==◌, ◌≡◌, nat_le, decimal}
use Rattle.std.specs.List.{list_any, slice_split, flat_map}
use Rattle.text.specs.declared.span.Span.{Span}
use Rattle.rules.specs.Channels.{has}
use Rattle.text.specs.declared.fault.Expected.TheVariants.{RisingRange}
use Rattle.text.specs.Words.{Missing, has_byte, before, behind, channel_said}

-- The channels from one to another, with both: the first two of them, and whether it has a channel.
abbrev pub Ends : Type 0
Ends = ℕ × ℕ

abbrev pub covers : Ends → ℕ → Bool
covers s c = nat_le s.0 c && nat_le c s.1

-- whether one of some spans has a channel
abbrev pub listed : List Ends → ℕ → Bool
listed ss c = list_any (λ s. covers s c) ss

-- no span begins below a channel, and each begins at least two channels above the end of the one before: none can be joined
abbrev pub Apart : ℕ → List Ends → Type 0
Apart n [] = Unit {0}
Apart n (s ∷ ss) = (n ≤ s.0) × Apart (s.1 + 2) ss

-- all end below a channel
abbrev pub Below : ℕ → List Ends → Type 0
Below n [] = Unit {0}
Below n (s ∷ ss) = (s.1 < n) × Below n ss

abbrev pub ends : Span → Ends
ends s = (s.first, s.last)

-- the channels of a word as a span, where they do not go down
abbrev pub spanned : List ℕ → Result ℕ Missing → Result ℕ Missing → Result Ends Missing
spanned w (Ok a) (Ok b) = cond (nat_le a b) (Ok (a, b)) (Err (RisingRange, w))
spanned w (Ok a) (Err x) = Err x
spanned w (Err x) b = Err x

-- the span that a word says: a channel, or with a dash (45) from the channel before it to the one behind
abbrev pub span_said : List ℕ → Result Ends Missing
span_said w = spanned w (channel_said (before 45 w)) (channel_said (cond (has_byte 45 w) (behind 45 w) w))

abbrev pub onto : Result Ends Missing → Result (List Ends) Missing → Result (List Ends) Missing
onto (Ok s) (Ok ss) = Ok (s ∷ ss)
onto (Ok s) (Err x) = Err x
onto (Err x) ss = Err x

-- the spans that words say, or what the first misses that says none
abbrev pub spans_said : List (List ℕ) → Result (List Ends) Missing
spans_said [] = Ok []
spans_said (w ∷ ws) = onto (span_said w) (spans_said ws)

-- the words of a list, with a comma (44) between; the empty text has none
abbrev pub pieces : List ℕ → List (List ℕ)
pieces bs = slice_split (λ b. b == 44) bs

abbrev pub list_said : List ℕ → Result (List Ends) Missing
list_said bs = cond (length bs == 0) (Ok []) (spans_said (pieces bs))

-- the set has the channels of the spans that are said, and no other
abbrev pub IsSet : Result (List Ends) Missing → ℕ → Type 0
IsSet said set = (ss : List Ends) × (said ≡ Ok ss) × ((c : ℕ) → has set c ≡ listed ss c)

-- how a span is written, and a list of spans behind the word of an item
abbrev pub span_text : Ends → List ℕ
span_text s = cond (s.0 == s.1) (decimal s.0) (decimal s.0 ++ (45 ∷ decimal s.1))

abbrev pub list_text : List Span → List ℕ
list_text [] = []
list_text (s ∷ ss) = 32 ∷ (span_text (ends s) ++ flat_map (λ t. 44 ∷ span_text (ends t)) ss)
