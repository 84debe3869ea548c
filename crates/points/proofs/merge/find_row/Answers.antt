-- The first row that is not of an earlier applicant is the applicant's own or none is.
use Rattle.std.proofs.Common.{ℕ, ◌+◌, get_or, arith, rules, ◌≡◌}
use Rattle.layout.specs.Tables.{Tables}
use Rattle.codec.specs.Rounds.{tables_of}
use Rattle.points.specs.Cursors.{from_row}
use Rattle.points.proofs.Lots.{tables_proper}
use Rattle.points.proofs.Cursors.{more_rows, cursor_within, passed_more, row_found}
use Rattle.points.proofs.merge.find_row.Goals as goal

pub overflow_add-from : goal.overflow_add-from
overflow_add-from c = omega (arith, cursor_within (tables_of c.args.round.now) (tables_proper c.args.round.now) c.args.applicant _ c.requires.before c.args.w c.requires.workshop)

pub slice_bounds-rest-end : goal.slice_bounds-rest-end
slice_bounds-rest-end c = omega (arith, cursor_within (tables_of c.args.round.now) (tables_proper c.args.round.now) c.args.applicant _ c.requires.before c.args.w c.requires.workshop)

pub overflow_cast-passed : goal.overflow_cast-passed
overflow_cast-passed c = omega (arith, cursor_within (tables_of c.args.round.now) (tables_proper c.args.round.now) c.args.applicant _ c.requires.before c.args.w c.requires.workshop, c.earlier-more.ensures)

pub overflow_add-passed : goal.overflow_add-passed
overflow_add-passed c = omega (arith, cursor_within (tables_of c.args.round.now) (tables_proper c.args.round.now) c.args.applicant _ c.requires.before c.args.w c.requires.workshop, c.earlier-more.ensures)

pub overflow_add-from-2 : goal.overflow_add-from-2
overflow_add-from-2 c = omega (arith, cursor_within (tables_of c.args.round.now) (tables_proper c.args.round.now) c.args.applicant _ c.requires.before c.args.w c.requires.workshop, c.earlier-more.ensures)

pub overflow_cast-from-2 : goal.overflow_cast-from-2
overflow_cast-from-2 c = omega (arith, cursor_within (tables_of c.args.round.now) (tables_proper c.args.round.now) c.args.applicant _ c.requires.before c.args.w c.requires.workshop, c.earlier-more.ensures)

pub returns-clause-row : goal.returns-clause-row
returns-clause-row c =
    let found = row_found (tables_of c.args.round.now) (tables_proper c.args.round.now) c.args.applicant _ c.requires.before c.args.w c.requires.workshop c.earlier-more.result c.is_some_and.result c.earlier-more.ensures (search rules) in
    cc

pub returns-clause-before : goal.returns-clause-before
returns-clause-before c =
    let t : Tables = tables_of c.args.round.now in
    let i : ℕ = from_row t c.args.w + get_or c.args.passed.now c.args.w 0 in
    let n : c.earlier-more.result ≡ more_rows t c.args.applicant c.args.w i = c.earlier-more.ensures in
    rw n (passed_more t (tables_proper c.args.round.now) c.args.applicant _ c.requires.before c.requires.long c.args.w c.requires.workshop)
