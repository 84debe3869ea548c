-- The bytes of a round: where each number stands, what it says, and the first fault. Everything is a total function of the bytes;
-- past their end they read as 0. In this order: the layout; the tables that the bytes say; faults in the order of the bytes.
use Rattle.std.specs.Prelude.{ℕ, zero, suc, ◌+◌, ◌*◌, Bool, false, cond, not, ◌&&◌, ◌||◌, List, length, Some, None, Option, Result, ◌==◌, nat_le, nat_lt, slice_index}
use Rattle.layout.specs.Slices.{table, flat, outcome, or_else}
use Rattle.layout.specs.Tables.{Tables, tables, most_applicants, most_workshops, most_places, most_entries, most_rows}
use Rattle.layout.specs.declared.Refusal.{Refusal}
use Rattle.layout.specs.declared.Refusal.TheVariants.{Short, BadSize, LongList, BadEntry, LotTaken, ManyRows, BadRow, RowOrder, Trailing}
use Rattle.layout.specs.declared.Sizes.{Sizes}

-- a byte, and a number of two bytes, the low one first
abbrev pub byte : List ℕ → ℕ → ℕ
byte b at = slice_index b at

abbrev pub word : List ℕ → ℕ → ℕ
word b at = slice_index b at + 256 * slice_index b (at + 1)

-- THE LAYOUT. The number of applicants at 0 and of workshops at 2, then a byte of places for each workshop.
abbrev pub applicants_in : List ℕ → ℕ
applicants_in b = word b 0

abbrev pub workshops_in : List ℕ → ℕ
workshops_in b = word b 2

abbrev pub places_from : ℕ
places_from = 4

-- where a's record begins: its lot (two bytes), the count of its list (one) and its workshops (one each)
unfoldable pub record_at : List ℕ → ℕ → ℕ
record_at b zero = places_from + workshops_in b
record_at b (suc a) = record_at b a + 3 + byte b (record_at b a + 2)

abbrev pub lot_in : List ℕ → ℕ → ℕ
lot_in b a = word b (record_at b a)

abbrev pub count_in : List ℕ → ℕ → ℕ
count_in b a = byte b (record_at b a + 2)

abbrev pub entry_in : List ℕ → ℕ → ℕ → ℕ
entry_in b a j = byte b (record_at b a + 3 + j)

-- after the last record the number of rows (two bytes), then the rows: workshop (one), applicant (two), points (two)
abbrev pub rows_from : List ℕ → ℕ
rows_from b = record_at b (applicants_in b)

abbrev pub rows_in : List ℕ → ℕ
rows_in b = word b (rows_from b)

abbrev pub row_at : List ℕ → ℕ → ℕ
row_at b i = rows_from b + 2 + 5 * i

abbrev pub row_workshop_in : List ℕ → ℕ → ℕ
row_workshop_in b i = byte b (row_at b i)

abbrev pub row_applicant_in : List ℕ → ℕ → ℕ
row_applicant_in b i = word b (row_at b i + 1)

abbrev pub row_points_in : List ℕ → ℕ → ℕ
row_points_in b i = word b (row_at b i + 3)

-- THE TABLES that the bytes say.
-- the places of the workshops before w, in all
unfoldable pub seats_before : List ℕ → ℕ → ℕ
seats_before b zero = 0
seats_before b (suc w) = seats_before b w + byte b (places_from + w)

-- where a's list begins, among the entries of all lists. A record is three bytes and its entries
unfoldable pub start_of : List ℕ → ℕ → ℕ
start_of b zero = 0
start_of b (suc a) = start_of b a + count_in b a

-- how many of the rows below i are of workshops before w
unfoldable pub rows_before : List ℕ → ℕ → ℕ → ℕ
rows_before b w zero = 0
rows_before b w (suc i) = cond (nat_lt (row_workshop_in b i) w) 1 0 + rows_before b w i

-- the entries of the lists of the applicants below a, one after the other
abbrev pub entries_below : List ℕ → ℕ → List ℕ
entries_below b = flat (λ a. table (entry_in b a) (count_in b a))

unfoldable pub tables_in : List ℕ → Tables
tables_in b =
    tables
    (table (seats_before b) (workshops_in b + 1))
    (table (lot_in b) (applicants_in b))
    (table (start_of b) (applicants_in b + 1))
    (entries_below b (applicants_in b))
    (table (λ w. rows_before b w (rows_in b)) (workshops_in b + 1))
    (table (row_applicant_in b) (rows_in b))
    (table (row_points_in b) (rows_in b))

abbrev pub sizes_in : List ℕ → Sizes
sizes_in b =
    record {
      applicants = applicants_in b;
      workshops = workshops_in b;
      entries = start_of b (applicants_in b);
      rows = rows_in b;
    }

-- FAULTS, in the order of the bytes. The first fault among f 0, f 1, up to f (n - 1)
unfoldable pub first_of : (ℕ → Option Refusal) → ℕ → Option Refusal
first_of f zero = None
first_of f (suc n) = or_else (first_of f n) (f n)

-- a refusal where the test holds
abbrev pub refuse : Bool → Refusal → Option Refusal
refuse t e = cond t (Some e) None

-- the k bytes at `at` are not all there
abbrev pub missing : List ℕ → ℕ → ℕ → Option Refusal
missing b at k = refuse (nat_lt (length b) (at + k)) (Short (length b))

-- too many applicants; no workshop or too many
abbrev pub head_fault : List ℕ → Option Refusal
head_fault b =
    or_else (missing b 0 2)
    (or_else (refuse (nat_lt most_applicants (applicants_in b)) (BadSize 0))
    (or_else (missing b 2 2)
    (refuse (workshops_in b == 0 || nat_lt most_workshops (workshops_in b)) (BadSize 2))))

-- too many places of workshop w
abbrev pub places_fault : List ℕ → ℕ → Option Refusal
places_fault b w = or_else (missing b (places_from + w) 1) (refuse (nat_lt most_places (byte b (places_from + w))) (BadSize (places_from + w)))

-- one of the applicants below a has this lot
unfoldable pub lot_seen : List ℕ → ℕ → ℕ → Bool
lot_seen b lot zero = false
lot_seen b lot (suc a) = lot_in b a == lot || lot_seen b lot a

-- one of the first j entries of a is this workshop
unfoldable pub entry_seen : List ℕ → ℕ → ℕ → ℕ → Bool
entry_seen b a w zero = false
entry_seen b a w (suc j) = entry_in b a j == w || entry_seen b a w j

-- entry j of a is missing, no workshop, or in the list already
abbrev pub entry_fault : List ℕ → ℕ → ℕ → Option Refusal
entry_fault b a j =
    or_else (missing b (record_at b a + 3 + j) 1)
    (refuse (nat_le (workshops_in b) (entry_in b a j) || entry_seen b a (entry_in b a j) j) (BadEntry (record_at b a + 3 + j)))

-- the lot comes before the count, and the count before the entries
abbrev pub record_fault : List ℕ → ℕ → Option Refusal
record_fault b a =
    or_else (missing b (record_at b a) 2)
    (or_else (refuse (lot_seen b (lot_in b a) a) (LotTaken (record_at b a)))
    (or_else (missing b (record_at b a + 2) 1)
    (or_else (refuse (nat_lt most_entries (count_in b a)) (LongList (record_at b a + 2)))
    (first_of (entry_fault b a) (count_in b a)))))

abbrev pub rows_fault : List ℕ → Option Refusal
rows_fault b = or_else (missing b (rows_from b) 2) (refuse (nat_lt most_rows (rows_in b)) (ManyRows (rows_from b)))

-- row i comes after row k: by workshop, then by applicant
abbrev pub row_after : List ℕ → ℕ → ℕ → Bool
row_after b i k =
    nat_lt (row_workshop_in b k) (row_workshop_in b i)
    || (row_workshop_in b k == row_workshop_in b i && nat_lt (row_applicant_in b k) (row_applicant_in b i))

-- row i does not come after the row before it
unfoldable pub out_of_order : List ℕ → ℕ → Bool
out_of_order b zero = false
out_of_order b (suc i) = not (row_after b (suc i) i)

-- each number of a row is judged as it is read, and the order last
abbrev pub row_fault : List ℕ → ℕ → Option Refusal
row_fault b i =
    or_else (missing b (row_at b i) 1)
    (or_else (refuse (nat_le (workshops_in b) (row_workshop_in b i)) (BadRow (row_at b i)))
    (or_else (missing b (row_at b i + 1) 2)
    (or_else (refuse (nat_le (applicants_in b) (row_applicant_in b i)) (BadRow (row_at b i)))
    (or_else (missing b (row_at b i + 3) 2)
    (or_else (refuse (row_points_in b i == 0) (BadRow (row_at b i)))
    (refuse (out_of_order b i) (RowOrder (row_at b i))))))))

abbrev pub end_fault : List ℕ → Option Refusal
end_fault b = refuse (nat_lt (row_at b (rows_in b)) (length b)) (Trailing (row_at b (rows_in b)))

unfoldable pub fault : List ℕ → Option Refusal
fault b =
    or_else (head_fault b)
    (or_else (first_of (places_fault b) (workshops_in b))
    (or_else (first_of (record_fault b) (applicants_in b))
    (or_else (rows_fault b)
    (or_else (first_of (row_fault b) (rows_in b))
    (end_fault b)))))

-- the round that the bytes are, or why they are none
unfoldable pub decode : List ℕ → Result Tables Refusal
decode b = outcome (fault b) (tables_in b)
