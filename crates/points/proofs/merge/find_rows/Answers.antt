-- Each applicant's rows are found in their turn, and what is written lies over the front of the slice.
use Rattle.std.proofs.Common.{◌≡◌, ℕ, ◌<◌, length, refl, ap, ◌∙◌, arith, rules}
use Rattle.std.proofs.lemmas.Bool.{le-ltb}
use Rattle.layout.specs.Slices.{flat, over}
use Rattle.layout.specs.Tables.{Tables, Proper, applicants}
use Rattle.codec.specs.Rounds.{tables_of}
use Rattle.points.specs.Standing.{rows_of_list, rows_found}
use Rattle.points.proofs.Lots.{tables_proper}
use Rattle.points.proofs.Cursors.{passed_none, passed_next, starts_le, found_more}
use Rattle.points.proofs.merge.find_rows.Goals as goal

pub loop-applicant-init : goal.loop-applicant-init
unfolding flat
loop-applicant-init c = record { long = refl; before = passed_none (tables_of c.args.round.now) (tables_proper c.args.round.now); done = refl }

pub loop-applicant-preserved : goal.loop-applicant-preserved
loop-applicant-preserved c =
    let t : Tables = tables_of c.args.round.now in
    let good : Proper t = tables_proper c.args.round.now in
    let there : c.loop-applicant.applicant < applicants t = c.loop-applicant-test.true in
    record {
      long = search rules;
      before = passed_next t good c.loop-applicant.applicant c.find_list.new.passed c.find_list.ensures.before;
      done =
          found_more t good c.loop-applicant.applicant c.loop-applicant.rows _ c.find_list.new.rows there c.loop-applicant.invariant.done (omega arith)
          c.find_list.ensures.rows;
    }

pub slice_bounds-find_list-end-in-loop-applicant : goal.slice_bounds-find_list-end-in-loop-applicant
slice_bounds-find_list-end-in-loop-applicant c = omega (arith, starts_le (tables_of c.args.round.now) (tables_proper c.args.round.now) c.loop-applicant.applicant c.loop-applicant-test.true)

pub slice_bounds-find_list-end-in-loop-applicant-2 : goal.slice_bounds-find_list-end-in-loop-applicant-2
slice_bounds-find_list-end-in-loop-applicant-2 c = omega (arith, starts_le (tables_of c.args.round.now) (tables_proper c.args.round.now) c.loop-applicant.applicant c.loop-applicant-test.true)

pub returns : goal.returns
unfolding rows_found
returns c =
    let t : Tables = tables_of c.args.round.now in
    let all : c.loop-applicant.applicant ≡ applicants t = omega arith in
    record {
      rows = c.loop-applicant.invariant.done ∙ ap (λ (a : ℕ). over (flat (rows_of_list t) a) c.args.rows.now) all;
      outcome = rw (le-ltb (length c.args.rows.now) (length t.entries) c.if-rows-round.false) refl;
    }
