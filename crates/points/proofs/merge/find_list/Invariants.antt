-- The cursors have passed only rows of earlier applicants; the front holds the rows of the entries that are done.
use Rattle.std.proofs.Common.{◌≡◌, length, map, take}
use Rattle.codec.specs.Rounds.{tables_of}
use Rattle.points.specs.Standing.{row_of}
use Rattle.points.specs.Cursors.{Passed}
use Rattle.points.proofs.merge.find_list.Given as goal

abbrev pub invariant-loop-k : goal.invariant-loop-k
invariant-loop-k l =
    record {
      long : length l.passed ≡ 256;
      before : Passed (tables_of l.round) l.applicant l.passed;
      done : take l.k l.rows ≡ map (λ w. row_of (tables_of l.round) w l.applicant) (take l.k l.list);
    }
