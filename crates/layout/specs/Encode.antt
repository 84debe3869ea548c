-- Tables as the bytes of a round, and what reading and writing owe each other.
use Rattle.std.specs.Prelude.{◌≡◌, ℕ, ◌+◌, ◌-◌, ◌/◌, ◌%◌, ◌<◌, List, [], ◌∷◌, ◌++◌, length, Ok, Err, ◌≢◌, slice_index}
use Rattle.layout.specs.Slices.{table, flat}
use Rattle.layout.specs.Tables.{Tables, Proper, applicants, workshops, rows, places_at, list_length, list_at}
use Rattle.layout.specs.Bytes.{decode}
use Rattle.layout.specs.declared.Refusal.{Refusal}

-- a number of two bytes, the low one first
abbrev pub two_bytes : ℕ → List ℕ
two_bytes x = x % 256 ∷ (x / 256 ∷ [])

-- a's record: lot, count, list
abbrev pub record_bytes : Tables → ℕ → List ℕ
record_bytes t a = two_bytes (slice_index t.lots a) ++ (list_length t a ∷ list_at t a)

-- row i, of workshop w
abbrev pub row_bytes : Tables → ℕ → ℕ → List ℕ
row_bytes t w i = w ∷ (two_bytes (slice_index t.row_applicants i) ++ two_bytes (slice_index t.row_points i))

-- the rows of workshop w
abbrev pub sheet_bytes : Tables → ℕ → List ℕ
sheet_bytes t w = flat (λ k. row_bytes t w (slice_index t.row_starts w + k)) (slice_index t.row_starts (w + 1) - slice_index t.row_starts w)

-- a round written out
unfoldable pub encode : Tables → List ℕ
encode t =
    two_bytes (applicants t)
    ++ (two_bytes (workshops t)
    ++ (table (places_at t) (workshops t)
    ++ (flat (record_bytes t) (applicants t)
    ++ (two_bytes (rows t)
    ++ flat (sheet_bytes t) (workshops t)))))

-- the numbers of b are bytes
abbrev pub BytesOnly : List ℕ → Type 0
BytesOnly b = (k : ℕ) → k < length b → slice_index b k < 256

-- what is read from b is a round that is written as b, and no other round is: taken exactly if b is the bytes of a round,
-- and refused exactly if it is not
pub record AsWritten (b : List ℕ) : Type 0 where
  pub sound : (t : Tables) → decode b ≡ Ok t → Proper t × (encode t ≡ b)
  pub complete : (t : Tables) → Proper t → encode t ≡ b → decode b ≡ Ok t
  pub refused : (e : Refusal) → decode b ≡ Err e → (t : Tables) → Proper t → encode t ≢ b

-- of all bytes
abbrev pub AllAsWritten : Type 0
AllAsWritten = (b : List ℕ) → BytesOnly b → AsWritten b

-- a round that is written is read as the same round
abbrev pub ReadsBack : Type 0
ReadsBack = (t : Tables) → Proper t → decode (encode t) ≡ Ok t
