use Rattle.std.proofs.Common.{◌≡◌, rules, sym, ap, ◌∙◌, Ok, arith}
use Rattle.std.proofs.lemmas.Result.{MatchResult-at_ok}
use Rattle.layout.specs.Encode.{BytesOnly}
use Rattle.layout.specs.Slices.{or_else}
use Rattle.layout.specs.Bytes.{fault, sizes_in, tables_in, decode}
use Rattle.layout.specs.Tables.{Tables}
use Rattle.layout.proofs.Firsts.{or_else_none}
use Rattle.codec.proofs.Firsts.{none_from_ok}
use Rattle.layout.specs.declared.Sizes.{Sizes}
use Rattle.layout.proofs.RoundTrip.{proper_from_no_fault}
use Rattle.layout.proofs.Told.{length_seats, length_lots, length_starts, length_entries, length_row_starts, length_row_applicants, length_row_points}
use Rattle.codec.proofs.Rounds.{proper_like}
use Rattle.office.proofs.Refills.{filled, tables_same}
use Rattle.office.proofs.reading.read_named.Goals as goal

pub invariant_of-result : goal.invariant_of-result
invariant_of-result c =
    let b = c.args.bytes.now in
    let small : BytesOnly b = λ k _. omega (arith, c.type_inv.bytes k) in
    let named : _ ≡ sizes_in b = MatchResult-at_ok _ _ _ c.in_ok-applicants.was c.sizes_named.ensures in
    let n = ap (λ (z : Sizes). z.applicants) named in
    let m = ap (λ (z : Sizes). z.workshops) named in
    let listed = ap (λ (z : Sizes). z.entries) named in
    let k = ap (λ (z : Sizes). z.rows) named in
    let answer = none_from_ok (or_else (fault b) _) (sizes_in b) _ (sym c.in_ok-read.was ∙ c.read.ensures.answer) in
    let none = (or_else_none (fault b) _ answer.0).0 in
    record {
      proper = proper_like (tables_in b) _
          (tables_same _ _ _ _ _ _ _ _ _ _ _ _ _ _
          (filled c.in_ok-seats.seats _ _ _ _ _ _ c.in_ok-read.was c.read.ensures.seated (search rules) (omega arith) (omega (arith, c.in_ok-seats.ensures.len, length_seats b)))
          (filled c.in_ok-lots.lots _ _ _ _ _ _ c.in_ok-read.was c.read.ensures.drawn (search rules) (omega arith) (omega (arith, c.in_ok-lots.ensures.len, length_lots b)))
          (filled c.in_ok-starts.starts _ _ _ _ _ _ c.in_ok-read.was c.read.ensures.started (search rules) (omega arith) (omega (arith, c.in_ok-starts.ensures.len, length_starts b)))
          (filled c.in_ok-entries.entries _ _ _ _ _ _ c.in_ok-read.was c.read.ensures.listed (search rules) (omega arith) (omega (arith, c.in_ok-entries.ensures.len, length_entries b)))
          (filled c.in_ok-row_starts.row_starts _ _ _ _ _ _ c.in_ok-read.was c.read.ensures.sheeted (search rules) (omega arith) (omega (arith, c.in_ok-row_starts.ensures.len, length_row_starts b)))
          (filled c.in_ok-row_applicants.row_applicants _ _ _ _ _ _ c.in_ok-read.was c.read.ensures.rowed (search rules) (omega arith) (omega (arith, c.in_ok-row_applicants.ensures.len, length_row_applicants b)))
          (filled c.in_ok-row_points.row_points _ _ _ _ _ _ c.in_ok-read.was c.read.ensures.pointed (search rules) (omega arith) (omega (arith, c.in_ok-row_points.ensures.len, length_row_points b))))
          (proper_from_no_fault b small none);
    }

pub returns : goal.returns
unfolding decode
returns c =
    let b = c.args.bytes.now in
    let named : _ ≡ sizes_in b = MatchResult-at_ok _ _ _ c.in_ok-applicants.was c.sizes_named.ensures in
    let n = ap (λ (z : Sizes). z.applicants) named in
    let m = ap (λ (z : Sizes). z.workshops) named in
    let listed = ap (λ (z : Sizes). z.entries) named in
    let k = ap (λ (z : Sizes). z.rows) named in
    let answer = none_from_ok (or_else (fault b) _) (sizes_in b) _ (sym c.in_ok-read.was ∙ c.read.ensures.answer) in
    let none = (or_else_none (fault b) _ answer.0).0 in
    let held = tables_same _ _ _ _ _ _ _ _ _ _ _ _ _ _
    (filled c.in_ok-seats.seats _ _ _ _ _ _ c.in_ok-read.was c.read.ensures.seated (search rules) (omega arith) (omega (arith, c.in_ok-seats.ensures.len, length_seats b)))
    (filled c.in_ok-lots.lots _ _ _ _ _ _ c.in_ok-read.was c.read.ensures.drawn (search rules) (omega arith) (omega (arith, c.in_ok-lots.ensures.len, length_lots b)))
    (filled c.in_ok-starts.starts _ _ _ _ _ _ c.in_ok-read.was c.read.ensures.started (search rules) (omega arith) (omega (arith, c.in_ok-starts.ensures.len, length_starts b)))
    (filled c.in_ok-entries.entries _ _ _ _ _ _ c.in_ok-read.was c.read.ensures.listed (search rules) (omega arith) (omega (arith, c.in_ok-entries.ensures.len, length_entries b)))
    (filled c.in_ok-row_starts.row_starts _ _ _ _ _ _ c.in_ok-read.was c.read.ensures.sheeted (search rules) (omega arith) (omega (arith, c.in_ok-row_starts.ensures.len, length_row_starts b)))
    (filled c.in_ok-row_applicants.row_applicants _ _ _ _ _ _ c.in_ok-read.was c.read.ensures.rowed (search rules) (omega arith) (omega (arith, c.in_ok-row_applicants.ensures.len, length_row_applicants b)))
    (filled c.in_ok-row_points.row_points _ _ _ _ _ _ c.in_ok-read.was c.read.ensures.pointed (search rules) (omega arith) (omega (arith, c.in_ok-row_points.ensures.len, length_row_points b))) in
    rw none (ap (λ (t : Tables). Ok t) (sym held))
