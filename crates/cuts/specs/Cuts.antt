-- The cut of a workshop, read off its bench, and who reaches it. Then the first of several cuts that is reached. Definitions only.
use Rattle.std.specs.Prelude.{ℕ, zero, suc, ◌-◌, Bool, false, cond, ◌&&◌, List, length, Some, None, Option, ◌==◌, nat_le, nat_lt, slice_index}
use Rattle.layout.specs.Slices.{or_else}
use Rattle.layout.specs.Tables.{Tables}
use Rattle.layout.specs.declared.Points.{Points}
use Rattle.layout.specs.declared.Lot.{Lot}
use Rattle.round.specs.ByPoints.{worth_of}
use Rattle.points.specs.Standing.{no_row, points_of_row, lot_of_row}
use Rattle.cuts.specs.declared.Cut.{Cut}
use Rattle.cuts.specs.declared.Cut.TheVariants.{Open, Shut, Full}

-- the cut that the row on the last seat makes: none while that seat is empty
abbrev pub cut_of_row : Tables → ℕ → Cut
cut_of_row t i = cond (i == no_row) Open (Full (record { 0 = points_of_row t i }) (record { 0 = lot_of_row t i }))

-- the cut of a bench: nobody gets into a workshop without places; otherwise the last seat decides
abbrev pub cut_of_bench : Tables → List ℕ → Cut
cut_of_bench t bench = cond (length bench == 0) Shut (cut_of_row t (slice_index bench (length bench - 1)))

-- whoever has points reaches an open cut; a full one, who goes ahead of it or is at it; a shut one nobody
abbrev pub reached : Points → Lot → Cut → Bool
reached points lot Open = nat_lt 0 points.0
reached points lot Shut = false
reached points lot (Full least last) = nat_lt 0 points.0 && nat_le (worth_of least.0 last.0) (worth_of points.0 lot.0)

-- the first below n that passes
unfoldable pub first_that : (ℕ → Bool) → ℕ → Option ℕ
first_that f zero = None
first_that f (suc n) = or_else (first_that f n) (cond (f n) (Some n) None)

-- a position as it is told: 255 for none
abbrev pub position : Option ℕ → ℕ
position None = 255
position (Some j) = j

-- the first of n positions whose cut is reached, or 255
abbrev pub first_reached : (ℕ → Bool) → ℕ → ℕ
first_reached f n = position (first_that f n)
