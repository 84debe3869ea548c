-- What the answer of a whole read says: from the sizes that the check found, and from what the filling laid over each slice.
use Rattle.std.proofs.Common.{◌≡◌, ℕ, ◌+◌, ◌*◌, ◌≤◌, Bool, true, false, not, List, length, None, Ok, Err, Option, Result, sym, ap, ◌∙◌, arith}
use Rattle.std.proofs.lemmas.Bool.{and_parts, leb-true}
use Rattle.layout.specs.Slices.{over, table, outcome, or_else}
use Rattle.layout.specs.Bytes.{applicants_in, workshops_in, rows_in, rows_from, record_at, lot_in, start_of, entries_below, seats_before, rows_before, row_applicant_in, row_points_in, tables_in, sizes_in, refuse, fault}
use Rattle.layout.specs.declared.Refusal.{Refusal}
use Rattle.layout.specs.declared.Refusal.TheVariants.{NoRoom}
use Rattle.layout.specs.declared.Lent.TheVariants.{RoundTables}
use Rattle.layout.specs.declared.Sizes.{Sizes}
use Rattle.layout.proofs.Clean.{clean_from_none}
use Rattle.layout.proofs.Firsts.{or_else_past, or_else_some}
use Rattle.layout.proofs.Offsets.{record_at_none, record_at_is, record_at_mono}
use Rattle.layout.specs.Encode.{BytesOnly}
use Rattle.codec.specs.Fronts.{enough, room_fault, fronts, Roomy, Ready}
use Rattle.codec.proofs.Fronts.{fronts_over, ready_over}
use Rattle.codec.proofs.Firsts.{fault_from_err, none_from_ok}

-- a fault of the bytes is the answer, whatever the room
pub refused_by_check : (b : List ℕ) (e : Refusal) (room : Option Refusal) (s t : Sizes) → Err e ≡ outcome (fault b) s →
    ◌≡◌ {A = Result Sizes Refusal} (Err e) (outcome (or_else (fault b) room) t)
refused_by_check b e room s t h = ap (λ o. outcome o t) (sym (or_else_some (fault b) room e (fault_from_err (fault b) s e h)))

module _ (b : List ℕ) (s : Sizes) (checked : Ok s ≡ outcome (fault b) (sizes_in b)) where
  pub no_fault : fault b ≡ None
  no_fault = (none_from_ok _ _ _ checked).0

  pub sizes_found : sizes_in b ≡ s
  sizes_found = (none_from_ok _ _ _ checked).1

  -- the answer where the slices have room, and where they have not
  module _ (seats lots starts entries row_starts row_applicants row_points : List ℕ) (room : Bool)
      (tested : room ≡ enough s (length seats) (length lots) (length starts) (length entries) (length row_starts) (length row_applicants) (length row_points)) where
    room_is : room_fault (sizes_in b) seats lots starts entries row_starts row_applicants row_points ≡ refuse (not room) (NoRoom RoundTables)
    room_is =
        ap (λ (z : Sizes). room_fault z seats lots starts entries row_starts row_applicants row_points) sizes_found
        ∙ ap (λ (t : Bool). refuse (not t) (NoRoom RoundTables)) (sym tested)

    -- past the check the room decides
    by_room : outcome (or_else (fault b) (room_fault (sizes_in b) seats lots starts entries row_starts row_applicants row_points)) (sizes_in b)
        ≡ outcome (refuse (not room) (NoRoom RoundTables)) (sizes_in b)
    by_room = ap (λ (o : Option Refusal). outcome o (sizes_in b)) (or_else_past _ _ no_fault ∙ room_is)

    pub refused_by_room : room ≡ false →
        ◌≡◌ {A = Result Sizes Refusal} (Err (NoRoom RoundTables)) (outcome (or_else (fault b) (room_fault (sizes_in b) seats lots starts entries row_starts row_applicants row_points)) (sizes_in b))
    refused_by_room r = sym (by_room ∙ ap (λ (t : Bool). outcome (refuse (not t) (NoRoom RoundTables)) (sizes_in b)) r)

    pub read_answer : room ≡ true →
        ◌≡◌ {A = Result Sizes Refusal} (Ok s) (outcome (or_else (fault b) (room_fault (sizes_in b) seats lots starts entries row_starts row_applicants row_points)) (sizes_in b))
    read_answer r = ap Ok (sym sizes_found) ∙ sym (by_room ∙ ap (λ (t : Bool). outcome (refuse (not t) (NoRoom RoundTables)) (sizes_in b)) r)

    pub roomy_from_test : room ≡ true → Roomy s seats lots starts entries row_starts row_applicants row_points
    roomy_from_test r =
        let seated = and_parts _ _ (sym tested ∙ r) in
        let drawn = and_parts _ _ seated.1 in
        let started = and_parts _ _ drawn.1 in
        let listed = and_parts _ _ started.1 in
        let sheeted = and_parts _ _ listed.1 in
        let rowed = and_parts _ _ sheeted.1 in
        record {
          for_seats = leb-true _ _ seated.0;
          for_lots = leb-true _ _ drawn.0;
          for_starts = leb-true _ _ started.0;
          for_entries = leb-true _ _ listed.0;
          for_row_starts = leb-true _ _ sheeted.0;
          for_row_applicants = leb-true _ _ rowed.0;
          for_row_points = leb-true _ _ rowed.1;
        }

  -- where the parts stand
  pub applicants_is : s.applicants ≡ applicants_in b
  applicants_is = sym (ap (λ (z : Sizes). z.applicants) sizes_found)

  pub workshops_is : s.workshops ≡ workshops_in b
  workshops_is = sym (ap (λ (z : Sizes). z.workshops) sizes_found)

  pub entries_is : s.entries ≡ start_of b (applicants_in b)
  entries_is = sym (ap (λ (z : Sizes). z.entries) sizes_found)

  pub entries_all : start_of b s.applicants ≡ s.entries
  entries_all = rw applicants_is (sym entries_is)

  pub rows_is : s.rows ≡ rows_in b
  rows_is = sym (ap (λ (z : Sizes). z.rows) sizes_found)

  pub few_workshops : s.workshops ≤ 256
  few_workshops = omega (arith, workshops_is, (clean_from_none b no_fault).few_workshops)

  pub records_is : 4 + s.workshops ≡ record_at b 0
  records_is = omega (arith, workshops_is, record_at_none b)

  pub rows_from_is : 4 + s.workshops + 3 * s.applicants + s.entries ≡ rows_from b
  rows_from_is = omega (arith, applicants_is, workshops_is, entries_is, record_at_is b (applicants_in b))

  pub records_within : 4 + s.workshops ≤ length b
  records_within =
      omega (arith, workshops_is, record_at_none b, record_at_mono b 0 (applicants_in b) (omega arith), (clean_from_none b no_fault).whole)

  -- what was laid over a slice by these sizes is the table that the bytes say
  module _ (x old : List ℕ) where
    pub seats_laid : x ≡ over (table (seats_before b) (s.workshops + 1)) old → x ≡ over (tables_in b).seats old
    unfolding tables_in
    seats_laid h = rw workshops_is at h

    pub lots_laid : x ≡ over (table (lot_in b) s.applicants) old → x ≡ over (tables_in b).lots old
    unfolding tables_in
    lots_laid h = rw applicants_is at h

    pub starts_laid : x ≡ over (table (start_of b) (s.applicants + 1)) old → x ≡ over (tables_in b).starts old
    unfolding tables_in
    starts_laid h = rw applicants_is at h

    pub entries_laid : x ≡ over (entries_below b s.applicants) old → x ≡ over (tables_in b).entries old
    unfolding tables_in
    entries_laid h = rw applicants_is at h

    pub row_starts_laid : x ≡ over (table (λ w. rows_before b w s.rows) (s.workshops + 1)) old → x ≡ over (tables_in b).row_starts old
    unfolding tables_in
    row_starts_laid h = rw (workshops_is, rows_is) at h

    pub row_applicants_laid : x ≡ over (table (row_applicant_in b) s.rows) old → x ≡ over (tables_in b).row_applicants old
    unfolding tables_in
    row_applicants_laid h = rw rows_is at h

    pub row_points_laid : x ≡ over (table (row_points_in b) s.rows) old → x ≡ over (tables_in b).row_points old
    unfolding tables_in
    row_points_laid h = rw rows_is at h

  -- and so the slices hold a round at their front
  module _ (small : BytesOnly b) (seats lots starts entries row_starts row_applicants row_points : List ℕ)
      (seats' lots' starts' entries' row_starts' row_applicants' row_points' : List ℕ)
      (seated : seats ≡ over (tables_in b).seats seats') (drawn : lots ≡ over (tables_in b).lots lots') (started : starts ≡ over (tables_in b).starts starts')
      (listed : entries ≡ over (tables_in b).entries entries') (sheeted : row_starts ≡ over (tables_in b).row_starts row_starts')
      (rowed : row_applicants ≡ over (tables_in b).row_applicants row_applicants') (pointed : row_points ≡ over (tables_in b).row_points row_points') where
    pub ready_read : Ready s seats lots starts entries row_starts row_applicants row_points
    ready_read =
        rw (seated, drawn, started, listed, sheeted, rowed, pointed, ← sizes_found)
        (ready_over b seats' lots' starts' entries' row_starts' row_applicants' row_points' small no_fault)

    pub whole_read : fronts s seats lots starts entries row_starts row_applicants row_points ≡ tables_in b
    whole_read =
        rw (seated, drawn, started, listed, sheeted, rowed, pointed, ← sizes_found)
        (fronts_over b seats' lots' starts' entries' row_starts' row_applicants' row_points')
