-- Who goes ahead of whom: the row of an applicant at a workshop, the worth of a row, and with them a read round as a round of the
-- theory, whose points count the lots in. Definitions only.
use Rattle.std.specs.Prelude.{ℕ, zero, suc, ◌+◌, ◌-◌, cond, List, ◌==◌, nat_lt, slice_index}
use Rattle.layout.specs.Slices.{table, flat}
use Rattle.layout.specs.Tables.{Tables, applicants, workshops, rows, places_at, list_length, list_at}
use Rattle.round.specs.Places as places
use Rattle.round.specs.Market.{Market}
use Rattle.round.specs.ByPoints.{worth_of, market_of}

-- stands for no row: the largest number of a slice of u32
abbrev pub no_row : ℕ
no_row = 4294967295

-- the first of the k rows from i on that is a's, or no_row
unfoldable pub row_from : Tables → ℕ → ℕ → ℕ → ℕ
row_from t a i zero = no_row
row_from t a i (suc k) = cond (slice_index t.row_applicants i == a) i (row_from t a (i + 1) k)

-- a's row at workshop w, or no_row
unfoldable pub row_of : Tables → ℕ → ℕ → ℕ
row_of t w a = row_from t a (slice_index t.row_starts w) (slice_index t.row_starts (w + 1) - slice_index t.row_starts w)

-- the rows of a's list, entry by entry; of all lists, one after the other
abbrev pub rows_of_list : Tables → ℕ → List ℕ
rows_of_list t a = table (λ j. row_of t (slice_index (list_at t a) j) a) (list_length t a)

unfoldable pub rows_found : Tables → List ℕ
rows_found t = flat (rows_of_list t) (applicants t)

-- the points and the lot of a row; 0 and 0 for a number that is no row
abbrev pub points_of_row : Tables → ℕ → ℕ
points_of_row t i = slice_index t.row_points i

abbrev pub lot_of_row : Tables → ℕ → ℕ
lot_of_row t i = cond (nat_lt i (rows t)) (slice_index t.lots (slice_index t.row_applicants i)) 0

-- one number for points and lot, by which rows are ordered: 0 for no row
unfoldable pub row_worth : Tables → ℕ → ℕ
row_worth t i = worth_of (points_of_row t i) (lot_of_row t i)

unfoldable pub worth : Tables → ℕ → ℕ → ℕ
worth t w a = row_worth t (row_of t w a)

-- the round of the theory that the tables are
unfoldable pub round_of : Tables → places.Round
round_of t =
    record {
      lists = table (list_at t) (applicants t);
      places = table (places_at t) (workshops t);
      points = table (λ w. table (worth t w) (applicants t)) (workshops t);
    }

-- and its market
unfoldable pub market : Tables → Market
market t = market_of (round_of t)
