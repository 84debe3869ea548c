-- The cuts of a round that was asked to the end, and what is promised of them: they are what they are said to be, and everybody
-- reads off them what it got. Definitions and statements only.
use Rattle.std.specs.Prelude.{◌≡◌, ℕ, ◌<◌, ◌≤◌, Bool, true, slice_index}
use Rattle.layout.specs.Tables.{Tables, Proper, applicants, workshops, places_at, list_length, list_at}
use Rattle.round.specs.Market.{final, here, count}
use Rattle.points.specs.Standing.{row_of, points_of_row, worth, market}
use Rattle.asking.specs.Ended.{told, bench_at}
use Rattle.cuts.specs.Cuts.{cut_of_bench, reached, first_reached}
use Rattle.cuts.specs.declared.Cut.{Cut}
use Rattle.cuts.specs.declared.Cut.TheVariants.{Open, Shut, Full}

-- the cut of w in the end
unfoldable pub cut_at : Tables → ℕ → Cut
cut_at t w = cut_of_bench t (bench_at t (final (market t)) w)

-- the points that a has at w, 0 without a row
abbrev pub own_points : Tables → ℕ → ℕ → ℕ
own_points t w a = points_of_row t (row_of t w a)

-- a reaches the cut of w with its own points there and its lot
abbrev pub reaches_cut : Tables → ℕ → ℕ → Bool
reaches_cut t a w = reached (record { 0 = own_points t w a }) (record { 0 = slice_index t.lots a }) (cut_at t w)

-- whoever has a place at w in the end, and how many they are
abbrev pub placed_in : Tables → ℕ → ℕ → Bool
placed_in t w = here (market t).wish (final (market t)) w

abbrev pub placed_count : Tables → ℕ → ℕ
placed_count t w = count (placed_in t w) (applicants t)

-- a is the last of those placed at w
abbrev pub Last : Tables → ℕ → ℕ → Type 0
Last t w a = (a < applicants t) × (placed_in t w a ≡ true) × ((b : ℕ) → b < applicants t → placed_in t w b ≡ true → worth t w a ≤ worth t w b)

-- no more are placed than there are places. Without places the cut is shut, with places left it is open, and in a full workshop it
-- is the points and the lot of the last that is placed there
pub record CutDefined (t : Tables) (w : ℕ) (cut : Cut) : Type 0 where
  pub room : placed_count t w ≤ places_at t w
  pub shut : places_at t w ≡ 0 → cut ≡ Shut
  pub open_yet : placed_count t w < places_at t w → cut ≡ Open
  pub full : 0 < places_at t w → placed_count t w ≡ places_at t w →
      (a : ℕ) × Last t w a × (cut ≡ Full (record { 0 = own_points t w a }) (record { 0 = slice_index t.lots a }))

abbrev pub CutsDefined : Type 0
CutsDefined = (t : Tables) → Proper t → (w : ℕ) → w < workshops t → CutDefined t w (cut_at t w)

-- what an applicant is told is the first position of its list whose cut it reaches, or 255 where there is none
abbrev pub ToldByCuts : Type 0
ToldByCuts =
    (t : Tables) → Proper t → (a : ℕ) → a < applicants t →
    told (market t) a ≡ first_reached (λ j. reaches_cut t a (slice_index (list_at t a) j)) (list_length t a)
