-- What lies at the front of lent space: the same as of the seven slices one by one. Definitions only.
use Rattle.std.specs.Prelude.{◌≡◌, ℕ, Bool, List, Option, length}
use Rattle.std.specs.Borrow.{MutBor}
use Rattle.layout.specs.Tables.{Tables}
use Rattle.layout.specs.declared.Refusal.{Refusal}
use Rattle.layout.specs.declared.Sizes.{Sizes}
use Rattle.codec.specs.Fronts.{fronts, enough, room_fault, Ready}
use Rattle.codec.specs.declared.space.Space.{Space}

-- the tables that lie at the front of the space, cut to the sizes
abbrev pub front : Sizes → Space → Tables
front s p = fronts s p.seats.now p.lots.now p.starts.now p.entries.now p.row_starts.now p.row_applicants.now p.row_points.now

-- each slice is long enough for the sizes
abbrev pub suffices : Sizes → Space → Bool
suffices s p =
    enough s (length p.seats.now) (length p.lots.now) (length p.starts.now) (length p.entries.now) (length p.row_starts.now) (length p.row_applicants.now) (length p.row_points.now)

-- a slice is too short for the tables
abbrev pub no_room : Sizes → Space → Option Refusal
no_room s p = room_fault s p.seats.now p.lots.now p.starts.now p.entries.now p.row_starts.now p.row_applicants.now p.row_points.now

-- the space holds a round of these sizes at its front
abbrev pub Holds : Sizes → Space → Type 0
Holds s p = Ready s p.seats.now p.lots.now p.starts.now p.entries.now p.row_starts.now p.row_applicants.now p.row_points.now

-- q is the same slice as p, and as long
pub record SameSlice (p q : MutBor (List ℕ)) : Type 0 where
  pub reference : q.ghost_name ≡ p.ghost_name
  pub long : length q.now ≡ length p.now

-- q is of the same slices as p
pub record SameSlices (p q : Space) : Type 0 where
  pub seats : SameSlice p.seats q.seats
  pub lots : SameSlice p.lots q.lots
  pub starts : SameSlice p.starts q.starts
  pub entries : SameSlice p.entries q.entries
  pub row_starts : SameSlice p.row_starts q.row_starts
  pub row_applicants : SameSlice p.row_applicants q.row_applicants
  pub row_points : SameSlice p.row_points q.row_points
