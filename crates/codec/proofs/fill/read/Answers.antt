-- A fault of the bytes comes first, then the room; past both, what was filled is what the bytes say.
use Rattle.std.proofs.Common.{refl, arith}
use Rattle.std.proofs.lemmas.Result.{err_from_is_err_and}
use Rattle.layout.specs.Encode.{BytesOnly}
use Rattle.layout.proofs.RoundTrip.{all_as_written}
use Rattle.codec.proofs.Answered.{refused_by_check, no_fault, refused_by_room, read_answer, roomy_from_test, applicants_is, workshops_is, entries_all, rows_is, few_workshops, records_is, rows_from_is, records_within, seats_laid, lots_laid, starts_laid, entries_laid, row_starts_laid, row_applicants_laid, row_points_laid, ready_read, whole_read}
use Rattle.codec.proofs.fill.read.Goals as goal

pub returns-in_err-sizes : goal.returns-in_err-sizes
returns-in_err-sizes c =
    let p = err_from_is_err_and c.from_residual.result c.from_residual.ensures.1 in
    rw (p.1, p.2)
    (record {
      answer = refused_by_check _ _ _ _ _ c.in_err-sizes.ensures;
      seated = refl;
      drawn = refl;
      started = refl;
      listed = refl;
      sheeted = refl;
      rowed = refl;
      pointed = refl;
      written = all_as_written c.args.bytes.now (λ k _. omega (arith, c.type_inv.bytes k));
      ready = tt;
      whole = tt;
      same_slices = record { seats = record { reference = refl; long = refl }; lots = record { reference = refl; long = refl }; starts = record { reference = refl; long = refl }; entries = record { reference = refl; long = refl }; row_starts = record { reference = refl; long = refl }; row_applicants = record { reference = refl; long = refl }; row_points = record { reference = refl; long = refl } };
    })

pub returns-then-not-has_room : goal.returns-then-not-has_room
returns-then-not-has_room c =
    record {
      answer = refused_by_room c.args.bytes.now _ c.in_ok-sizes.ensures _ _ _ _ _ _ _ _ c.has_room.ensures c.if-not-has_room.true;
      seated = refl;
      drawn = refl;
      started = refl;
      listed = refl;
      sheeted = refl;
      rowed = refl;
      pointed = refl;
      written = all_as_written c.args.bytes.now (λ k _. omega (arith, c.type_inv.bytes k));
      ready = tt;
      whole = tt;
      same_slices = record { seats = record { reference = refl; long = refl }; lots = record { reference = refl; long = refl }; starts = record { reference = refl; long = refl }; entries = record { reference = refl; long = refl }; row_starts = record { reference = refl; long = refl }; row_applicants = record { reference = refl; long = refl }; row_points = record { reference = refl; long = refl } };
    }

pub fill_seats-requires : goal.fill_seats-requires
fill_seats-requires c =
    let b = c.args.bytes.now in
    let s = c.in_ok-sizes.sizes in
    let ok = c.in_ok-sizes.ensures in
    let room = roomy_from_test b s ok _ _ _ _ _ _ _ _ c.has_room.ensures c.if-not-has_room.false in
    record { few = few_workshops b s ok; there = records_within b s ok; room = room.for_seats }

pub fill_lists-requires : goal.fill_lists-requires
fill_lists-requires c =
    let b = c.args.bytes.now in
    let s = c.in_ok-sizes.sizes in
    let ok = c.in_ok-sizes.ensures in
    let room = roomy_from_test b s ok _ _ _ _ _ _ _ _ c.has_room.ensures c.if-not-has_room.false in
    record {
      clean = no_fault b s ok;
      place = records_is b s ok;
      many = applicants_is b s ok;
      lot_room = room.for_lots;
      start_room = room.for_starts;
      entry_room = omega (arith, entries_all b s ok, room.for_entries);
    }

pub fill_rows-requires : goal.fill_rows-requires
fill_rows-requires c =
    let b = c.args.bytes.now in
    let s = c.in_ok-sizes.sizes in
    let ok = c.in_ok-sizes.ensures in
    let room = roomy_from_test b s ok _ _ _ _ _ _ _ _ c.has_room.ensures c.if-not-has_room.false in
    record {
      clean = no_fault b s ok;
      place = omega (arith, rows_from_is b s ok);
      many = rows_is b s ok;
      size = workshops_is b s ok;
      start_room = room.for_row_starts;
      applicant_room = room.for_row_applicants;
      point_room = room.for_row_points;
    }

pub returns : goal.returns
returns c =
    let b = c.args.bytes.now in
    let s = c.in_ok-sizes.sizes in
    let ok = c.in_ok-sizes.ensures in
    let small : BytesOnly b = λ k _. omega (arith, c.type_inv.bytes k) in
    let seated = seats_laid b s ok _ _ c.fill_seats.ensures in
    let drawn = lots_laid b s ok _ _ c.fill_lists.ensures.drawn in
    let started = starts_laid b s ok _ _ c.fill_lists.ensures.started in
    let listed = entries_laid b s ok _ _ c.fill_lists.ensures.listed in
    let sheeted = row_starts_laid b s ok _ _ c.fill_rows.ensures.sheeted in
    let rowed = row_applicants_laid b s ok _ _ c.fill_rows.ensures.rowed in
    let pointed = row_points_laid b s ok _ _ c.fill_rows.ensures.pointed in
    record {
      answer = read_answer b s ok _ _ _ _ _ _ _ _ c.has_room.ensures c.if-not-has_room.false;
      seated = seated;
      drawn = drawn;
      started = started;
      listed = listed;
      sheeted = sheeted;
      rowed = rowed;
      pointed = pointed;
      written = all_as_written b small;
      ready = ready_read b s ok small _ _ _ _ _ _ _ _ _ _ _ _ _ _ seated drawn started listed sheeted rowed pointed;
      whole = whole_read b s ok small _ _ _ _ _ _ _ _ _ _ _ _ _ _ seated drawn started listed sheeted rowed pointed;
      same_slices = record { seats = record { reference = refl; long = omega arith }; lots = record { reference = refl; long = omega arith }; starts = record { reference = refl; long = omega arith }; entries = record { reference = refl; long = omega arith }; row_starts = record { reference = refl; long = omega arith }; row_applicants = record { reference = refl; long = omega arith }; row_points = record { reference = refl; long = omega arith } };
    }
