-- What asking to the end leaves: what each applicant is told, the benches, the counts; and what is promised of it.
-- Definitions and statements only.
use Rattle.std.specs.Prelude.{◌≡◌, ℕ, zero, suc, ◌+◌, ◌-◌, ◌<◌, ◌≤◌, Bool, cond, List, [], ◌∷◌, length, Option, nat_lt, slice_index}
use Rattle.layout.specs.Slices.{flat, or_else}
use Rattle.layout.specs.Bytes.{refuse}
use Rattle.layout.specs.Tables.{Tables, applicants, workshops, places_at, list_at}
use Rattle.layout.specs.declared.Refusal.{Refusal}
use Rattle.layout.specs.declared.Refusal.TheVariants.{NoRoom}
use Rattle.layout.specs.declared.Lent.TheVariants.{Results, Benches, RoundTables}
use Rattle.round.specs.Places.{result}
use Rattle.round.specs.Promise.{Proper, Stable, rank, with_list}
use Rattle.round.specs.Market.{Market, asked, final, placed_at, got, asks}
use Rattle.round.specs.ByPoints.{market_of}
use Rattle.points.specs.Standing.{row_worth, round_of, market}
use Rattle.asking.specs.declared.Desk.{Desk}
use Rattle.bench.specs.Row.{after_all, empty_bench}

-- what an applicant is told: the position in its list of what it got, from 0, or 255 for nothing
unfoldable pub told : Market → ℕ → ℕ
told k a = cond (placed_at k (final k) a) (final k a) 255

-- those of the k rows from i on whose applicants are of X
unfoldable pub rows_of_set : Tables → (ℕ → Bool) → ℕ → ℕ → List ℕ
rows_of_set t X i zero = []
rows_of_set t X i (suc k) =
    cond (X (slice_index t.row_applicants i))
    (i ∷ rows_of_set t X (i + 1) k)
    (rows_of_set t X (i + 1) k)

-- the rows that those of X have at workshop w
unfoldable pub rows_at : Tables → (ℕ → Bool) → ℕ → List ℕ
rows_at t X w = rows_of_set t X (slice_index t.row_starts w) (slice_index t.row_starts (w + 1) - slice_index t.row_starts w)

-- the bench of w once all of X have asked, and once all who have come to it or past it at the state s have
unfoldable pub bench_of : Tables → (ℕ → Bool) → ℕ → List ℕ
bench_of t X w = after_all (row_worth t) (rows_at t X w) (empty_bench (places_at t w))

unfoldable pub bench_at : Tables → (ℕ → ℕ) → ℕ → List ℕ
bench_at t s w = bench_of t (asked (market t).wish s w) w

-- all benches, one after the other
unfoldable pub benches_at : Tables → (ℕ → ℕ) → List ℕ
benches_at t s = flat (bench_at t s) (workshops t)

-- the benches at the end
unfoldable pub benches_of : Tables → List ℕ
benches_of t = benches_at t (final (market t))

-- too short a slice for the results, the benches, or the rows of the entries: looked at in this order
abbrev pub no_room : Tables → ℕ → ℕ → ℕ → Option Refusal
no_room t results benches rows =
    or_else (refuse (nat_lt results (applicants t)) (NoRoom Results))
    (or_else (refuse (nat_lt benches (slice_index t.seats (workshops t))) (NoRoom Benches))
    (refuse (nat_lt rows (length t.entries)) (NoRoom RoundTables)))

-- the same slices lie on the desk, whatever they hold: who lent them has to know it after each call
pub record SameSlices (old new : Desk) : Type 0 where
  pub rows : new.rows.ghost_name ≡ old.rows.ghost_name
  pub results : new.results.ghost_name ≡ old.results.ghost_name
  pub benches : new.benches.ghost_name ≡ old.benches.ghost_name

-- What the run of a round promises. stable and dearest: no applicant and workshop would rather have each other, and no stable
-- assignment gives anybody anything dearer. truthful: no other list l gets b anything dearer, by its own list, than its own list
-- gets it. few_asks: at most as many asks as there are entries. as_defined: what each got is what all asking together step by
-- step comes to
pub record Fair (t : Tables) : Type 0 where
  pub stable : Stable (round_of t) (got (market t))
  pub dearest : (m : ℕ → ℕ) → Stable (round_of t) m → (a : ℕ) → a < applicants t → rank (list_at t a) (got (market t) a) ≤ rank (list_at t a) (m a)
  pub truthful : (b : ℕ) (l : List ℕ) → b < applicants t → Proper (with_list (round_of t) b l) → rank (list_at t b) (got (market t) b) ≤ rank (list_at t b) (got (market_of (with_list (round_of t) b l)) b)
  pub few_asks : asks (market t) ≤ length t.entries
  pub as_defined : (a : ℕ) → a < applicants t → got (market t) a ≡ result (round_of t) a
