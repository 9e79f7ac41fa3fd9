-- What a table book stands for. Assumes nothing.
use Rattle.std.specs.Prelude.{◌≡◌, true, ℕ, zero, suc, ◌+◌, ◌*◌, List, length, nat_le, slice_index, slice_index_or}
use Rattle.rules.specs.Meanings.{Meaning, Lawful, listed}
use Rattle.rules.specs.Listed.{listed_lawful}
use Rattle.rules.specs.Channels.{has}
use Rattle.rules.specs.declared.table.TableEntry.{TableEntry}

-- the number in n bytes from place p on, high byte first
abbrev pub number : List ℕ → ℕ → ℕ → ℕ
number bs p zero = 0
number bs p (suc n) = number bs p n * 256 + slice_index bs (p + n)

abbrev pub no_table : TableEntry
no_table = record { first = 0; second = 0; offset = 0 }

-- row a of 64 bits, of the 64 rows at an offset
abbrev pub row : List ℕ → ℕ → ℕ → ℕ
row bs o a = number bs (o + 8 * a) 8

-- The row of a channel has some channel of a set.
abbrev pub Meets : List ℕ → ℕ → ℕ → ℕ → Type 0
Meets bs o across a = (b : ℕ) × (has across b ≡ true) × (has (row bs o a) b ≡ true)

-- A channel is in the row of some channel of a set.
abbrev pub Reached : List ℕ → ℕ → ℕ → ℕ → Type 0
Reached bs o across b = (a : ℕ) × (has across a ≡ true) × (has (row bs o a) b ≡ true)

abbrev pub tables : ℕ → List ℕ → List TableEntry → Meaning
tables n bs es = listed n (length es)
    (λ i. ((slice_index_or es i no_table).first, (slice_index_or es i no_table).second))
    (λ i. nat_le ((slice_index_or es i no_table).offset + 512) (length bs))
    (λ i a b. has (row bs (slice_index_or es i no_table).offset a) b)

pub tables_lawful : (n : ℕ) (bs : List ℕ) (es : List TableEntry) → Lawful (tables n bs es)
tables_lawful n bs es = listed_lawful n (length es)
    (λ i. ((slice_index_or es i no_table).first, (slice_index_or es i no_table).second))
    (λ i. nat_le ((slice_index_or es i no_table).offset + 512) (length bs))
    (λ i a b. has (row bs (slice_index_or es i no_table).offset a) b)
