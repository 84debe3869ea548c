-- The cursors have passed only rows of earlier applicants; the front of the slice holds the rows of all lists that are done.
use Rattle.std.proofs.Common.{◌≡◌, length}
use Rattle.layout.specs.Slices.{flat, over}
use Rattle.codec.specs.Rounds.{tables_of}
use Rattle.points.specs.Standing.{rows_of_list}
use Rattle.points.specs.Cursors.{Passed}
use Rattle.points.proofs.merge.find_rows.Given as goal

abbrev pub invariant-loop-applicant : goal.invariant-loop-applicant
invariant-loop-applicant l =
    record {
      long : length l.passed ≡ 256;
      before : Passed (tables_of l.round) l.applicant l.passed;
      done : l.rows ≡ over (flat (rows_of_list (tables_of l.round)) l.applicant) l.initial.rows;
    }
