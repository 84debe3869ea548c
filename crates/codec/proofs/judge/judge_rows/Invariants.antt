-- The loop keeps: where the next row begins, that none so far is at fault, and where the next may stand at the earliest.
use Rattle.std.proofs.Common.{◌≡◌, None}
use Rattle.layout.specs.Bytes.{first_of, row_at, row_fault}
use Rattle.codec.specs.Readers.{Stands}
use Rattle.codec.proofs.Rows.{least_workshop, least_applicant}
use Rattle.codec.proofs.judge.judge_rows.Given as goal

abbrev pub invariant-loop-i : goal.invariant-loop-i
invariant-loop-i l =
    record {
      stands : Stands l.reader l.fn.reader.bytes.now (row_at l.fn.reader.bytes.now l._i);
      clean : first_of (row_fault l.fn.reader.bytes.now) l._i ≡ None;
      workshop : l.least.workshop ≡ least_workshop l.fn.reader.bytes.now l._i;
      applicant : l.least.applicant ≡ least_applicant l.fn.reader.bytes.now l._i;
    }
