-- The loop keeps: which rows are left, which starts are known, and that starts and rows so far lie over the slices.
use Rattle.std.proofs.Common.{◌≡◌, ◌+◌, ◌-◌, ◌*◌, ◌≤◌, take, drop}
use Rattle.std.specs.Slice.Iter.{chunks_exact_rest, chunks_exact_size}
use Rattle.std.specs.Iterator.Adapters.{enumerate_source, enumerate_count}
use Rattle.layout.specs.Slices.{over, table}
use Rattle.layout.specs.Bytes.{rows_before, row_applicant_in, row_points_in}
use Rattle.codec.proofs.Sheets.{next_open}
use Rattle.codec.proofs.fill.fill_rows.Given as goal

abbrev pub invariant-loop-i : goal.invariant-loop-i
invariant-loop-i l =
    let i = enumerate_count l.i-iterator in record {
      size : chunks_exact_size (enumerate_source l.i-iterator) ≡ 5;
      left : chunks_exact_rest (enumerate_source l.i-iterator) ≡ drop (5 * i) (take (l.«from» + 5 * l.rows - l.«from») (drop l.«from» l.bytes));
      within : i ≤ l.rows;
      opened : l.next ≡ next_open l.bytes i;
      sheeted : l.row_starts ≡ over (table (λ w. rows_before l.bytes w l.rows) l.next) l.initial.row_starts;
      rowed : l.row_applicants ≡ over (table (row_applicant_in l.bytes) i) l.initial.row_applicants;
      pointed : l.row_points ≡ over (table (row_points_in l.bytes) i) l.initial.row_points;
    }
