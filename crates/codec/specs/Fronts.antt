-- The front of seven slices as the tables of a round: how much of each belongs to it, and when it is a round. Definitions only.
use Rattle.std.specs.Prelude.{ℕ, ◌+◌, ◌≤◌, Bool, not, ◌&&◌, List, length, take, Option, nat_le}
use Rattle.layout.specs.Tables.{Tables, tables, Proper}
use Rattle.layout.specs.Bytes.{refuse}
use Rattle.layout.specs.declared.Sizes.{Sizes}
use Rattle.layout.specs.declared.Refusal.{Refusal}
use Rattle.layout.specs.declared.Refusal.TheVariants.{NoRoom}
use Rattle.layout.specs.declared.Lent.TheVariants.{RoundTables}

-- the tables that lie at the front of the slices, cut to the sizes
abbrev pub fronts : Sizes → List ℕ → List ℕ → List ℕ → List ℕ → List ℕ → List ℕ → List ℕ → Tables
fronts s seats lots starts entries row_starts row_applicants row_points =
    tables
    (take (s.workshops + 1) seats)
    (take s.applicants lots)
    (take (s.applicants + 1) starts)
    (take s.entries entries)
    (take (s.workshops + 1) row_starts)
    (take s.rows row_applicants)
    (take s.rows row_points)

-- each slice is long enough for the sizes
pub record Roomy (s : Sizes) (seats lots starts entries row_starts row_applicants row_points : List ℕ) : Type 0 where
  pub for_seats : s.workshops + 1 ≤ length seats
  pub for_lots : s.applicants ≤ length lots
  pub for_starts : s.applicants + 1 ≤ length starts
  pub for_entries : s.entries ≤ length entries
  pub for_row_starts : s.workshops + 1 ≤ length row_starts
  pub for_row_applicants : s.rows ≤ length row_applicants
  pub for_row_points : s.rows ≤ length row_points

-- the same as a test of the slices' lengths
abbrev pub enough : Sizes → ℕ → ℕ → ℕ → ℕ → ℕ → ℕ → ℕ → Bool
enough s seats lots starts entries row_starts row_applicants row_points =
    nat_le (s.workshops + 1) seats
    && (nat_le s.applicants lots
    && (nat_le (s.applicants + 1) starts
    && (nat_le s.entries entries
    && (nat_le (s.workshops + 1) row_starts
    && (nat_le s.rows row_applicants
    && nat_le s.rows row_points)))))

-- a slice is too short for the tables
abbrev pub room_fault : Sizes → List ℕ → List ℕ → List ℕ → List ℕ → List ℕ → List ℕ → List ℕ → Option Refusal
room_fault s seats lots starts entries row_starts row_applicants row_points =
    refuse (not (enough s (length seats) (length lots) (length starts) (length entries) (length row_starts) (length row_applicants) (length row_points))) (NoRoom RoundTables)

-- the slices hold a round of these sizes at their front
pub record Ready (s : Sizes) (seats lots starts entries row_starts row_applicants row_points : List ℕ) : Type 0 where
  pub roomy : Roomy s seats lots starts entries row_starts row_applicants row_points
  pub proper : Proper (fronts s seats lots starts entries row_starts row_applicants row_points)
