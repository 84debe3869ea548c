-- The cursors of the merge pass that finds the rows. Definitions only.
use Rattle.std.specs.Prelude.{ℕ, ◌+◌, ◌<◌, ◌≤◌, List, slice_index}
use Rattle.layout.specs.Tables.{Tables, workshops}

-- the first row of workshop w, and the end of its rows; the applicant whose row i is
abbrev pub from_row : Tables → ℕ → ℕ
from_row t w = slice_index t.row_starts w

abbrev pub to_row : Tables → ℕ → ℕ
to_row t w = slice_index t.row_starts (w + 1)

abbrev pub applicant_of : Tables → ℕ → ℕ
applicant_of t i = slice_index t.row_applicants i

-- how many rows of each workshop are passed, all of them of applicants before a
abbrev pub Passed : Tables → ℕ → List ℕ → Type 0
Passed t a passed =
    (w : ℕ) → w < workshops t →
    (from_row t w + slice_index passed w ≤ to_row t w) × ((j : ℕ) → from_row t w ≤ j → j < from_row t w + slice_index passed w → applicant_of t j < a)
