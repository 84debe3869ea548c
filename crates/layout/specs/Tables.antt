-- A round as tables of numbers: what is read from the bytes, and what every later part works on. n applicants, m workshops.
-- Then when tables are proper, that is, when they are the tables of some round. Definitions only, and at the end that tables are proper in
-- one way.
use Rattle.std.specs.Prelude.{◌≡◌, ℕ, ◌+◌, ◌-◌, ◌^◌, ◌<◌, ◌≤◌, Bool, true, false, not, ◌&&◌, ◌||◌, List, [], ◌∷◌, length, take, drop, ◌==◌, slice_index}
use Rattle.std.proofs.Props.{props}

-- seats: the sums of the places of the workshops before each one, and of all (m + 1 numbers), so that workshop w has the seats
-- from seats w up to seats (w + 1). lots: each applicant's lot. starts: where each applicant's list begins in entries, and the end
-- of all (n + 1 numbers). entries: all lists one after the other. row_starts: where each workshop's rows begin, and the end of all
-- (m + 1 numbers). row_applicants, row_points: the rows of the point sheets, by workshop and then by applicant
pub record Tables : Type 0 where
  pub seats : List ℕ
  pub lots : List ℕ
  pub starts : List ℕ
  pub entries : List ℕ
  pub row_starts : List ℕ
  pub row_applicants : List ℕ
  pub row_points : List ℕ

-- tables from the lists that slices hold
abbrev pub tables : List ℕ → List ℕ → List ℕ → List ℕ → List ℕ → List ℕ → List ℕ → Tables
tables seats lots starts entries row_starts row_applicants row_points =
    record {
      seats = seats;
      lots = lots;
      starts = starts;
      entries = entries;
      row_starts = row_starts;
      row_applicants = row_applicants;
      row_points = row_points;
    }

-- how many applicants, workshops, rows
abbrev pub applicants : Tables → ℕ
applicants t = length t.lots

abbrev pub workshops : Tables → ℕ
workshops t = length t.seats - 1

abbrev pub rows : Tables → ℕ
rows t = length t.row_applicants

-- the places of workshop w
abbrev pub places_at : Tables → ℕ → ℕ
places_at t w = slice_index t.seats (w + 1) - slice_index t.seats w

-- the number of entries of a's list, and the list
abbrev pub list_length : Tables → ℕ → ℕ
list_length t a = slice_index t.starts (a + 1) - slice_index t.starts a

abbrev pub list_at : Tables → ℕ → List ℕ
list_at t a = take (list_length t a) (drop (slice_index t.starts a) t.entries)

-- x stands in the list; no number stands in the list twice
unfoldable pub has : ℕ → List ℕ → Bool
has x [] = false
has x (y ∷ ys) = x == y || has x ys

unfoldable pub no_repeat : List ℕ → Bool
no_repeat [] = true
no_repeat (x ∷ xs) = not (has x xs) && no_repeat xs

-- The limits of the format: applicants, workshops, places of a workshop, entries of a list, rows.
abbrev pub most_applicants : ℕ
most_applicants = 4000

abbrev pub most_workshops : ℕ
most_workshops = 256

abbrev pub most_places : ℕ
most_places = 40

abbrev pub most_entries : ℕ
most_entries = 20

abbrev pub most_rows : ℕ
most_rows = 60000

-- When tables are those of a round, part by part.
-- the numbers are within the limits
abbrev pub Limited : Tables → Type 0
Limited t = (applicants t ≤ most_applicants) × (2 ≤ length t.seats) × (length t.seats ≤ most_workshops + 1) × (rows t ≤ most_rows)

-- the seats are sums of places
abbrev pub Seated : Tables → Type 0
Seated t =
    (slice_index t.seats 0 ≡ 0)
    × ((w : ℕ) → w < workshops t → slice_index t.seats w ≤ slice_index t.seats (w + 1))
    × ((w : ℕ) → w < workshops t → slice_index t.seats (w + 1) ≤ slice_index t.seats w + most_places)

-- the lists lie one after the other
abbrev pub Started : Tables → Type 0
Started t =
    (length t.starts ≡ length t.lots + 1)
    × (slice_index t.starts 0 ≡ 0)
    × ((a : ℕ) → a < applicants t → slice_index t.starts a ≤ slice_index t.starts (a + 1))
    × ((a : ℕ) → a < applicants t → slice_index t.starts (a + 1) ≤ slice_index t.starts a + most_entries)
    × (slice_index t.starts (applicants t) ≡ length t.entries)

-- lists name workshops
abbrev pub Named : Tables → Type 0
Named t = (k : ℕ) → k < length t.entries → slice_index t.entries k < workshops t

-- and none twice
abbrev pub Distinct : Tables → Type 0
Distinct t = (a : ℕ) → a < applicants t → no_repeat (list_at t a) ≡ true

-- lots are numbers of two bytes
abbrev pub Drawn : Tables → Type 0
Drawn t = (a : ℕ) → a < applicants t → slice_index t.lots a < 2 ^ 16

-- no two applicants have one lot
abbrev pub Apart : Tables → Type 0
Apart t = (a b : ℕ) → (a < applicants t) × (b < applicants t) × (slice_index t.lots a ≡ slice_index t.lots b) → a ≡ b

-- the rows of the workshops lie one after the other
abbrev pub Sheeted : Tables → Type 0
Sheeted t =
    (length t.row_starts ≡ length t.seats)
    × (slice_index t.row_starts 0 ≡ 0)
    × ((w : ℕ) → w < workshops t → slice_index t.row_starts w ≤ slice_index t.row_starts (w + 1))
    × (slice_index t.row_starts (workshops t) ≡ rows t)

-- each row is of an applicant and with points
abbrev pub Rowed : Tables → Type 0
Rowed t =
    (length t.row_points ≡ length t.row_applicants)
    × ((i : ℕ) → i < rows t → slice_index t.row_applicants i < applicants t)
    × ((i : ℕ) → i < rows t → 0 < slice_index t.row_points i)
    × ((i : ℕ) → i < rows t → slice_index t.row_points i < 2 ^ 16)

-- the rows of a workshop are sorted by applicant, none twice
abbrev pub Sorted : Tables → Type 0
Sorted t =
    (w i : ℕ) → (w < workshops t) × (slice_index t.row_starts w ≤ i) × (i + 1 < slice_index t.row_starts (w + 1)) →
    slice_index t.row_applicants i < slice_index t.row_applicants (i + 1)

pub record Proper (t : Tables) : Type 0 where
  pub limited : Limited t
  pub seated : Seated t
  pub started : Started t
  pub named : Named t
  pub distinct : Distinct t
  pub drawn : Drawn t
  pub apart : Apart t
  pub sheeted : Sheeted t
  pub rowed : Rowed t
  pub sorted : Sorted t

-- tables are proper in one way only, so that a type may carry that they are
pub proper_prop : (t : Tables) → IsProp (Proper t)
proper_prop t = Prim.hlevel props
