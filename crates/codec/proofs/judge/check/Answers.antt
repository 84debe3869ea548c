-- Each part's error is the check's; past the last part the sizes are those that the parts found.
use Rattle.std.proofs.Common.{◌≡◌, ◌+◌, ◌*◌, arith}
use Rattle.layout.specs.Bytes.{applicants_in, start_of}
use Rattle.std.proofs.lemmas.Result.{err_from_is_err_and}
use Rattle.codec.proofs.Checked.{refused_by_head, refused_by_places, refused_by_records, refused_by_row_count, refused_by_rows, refused_by_end, accepted, records_found, entries_found}
use Rattle.codec.proofs.judge.check.Goals as goal
use Rattle.codec.proofs.judge.check.Goals.{Else-reader-bytes}

pub returns-in_err-head : goal.returns-in_err-head
returns-in_err-head c =
    let p = err_from_is_err_and c.from_residual.result c.from_residual.ensures.1 in
    rw (p.1, p.2) (refused_by_head c.new-reader.ensures c.in_err-head.ensures.answer)

pub returns-in_err-judge_places : goal.returns-in_err-judge_places
returns-in_err-judge_places c =
    let p = err_from_is_err_and c.from_residual-in_err-judge_places.result c.from_residual-in_err-judge_places.ensures.1 in
    rw (p.1, p.2) (refused_by_places c.new-reader.ensures c.in_ok-head.ensures.answer c.in_ok-head.ensures.moved c.in_err-judge_places.ensures.answer)

pub judge_records-requires-clause-place : goal.judge_records-requires-clause-place
judge_records-requires-clause-place c =
    records_found c.new-reader.ensures c.in_ok-head.ensures.answer c.in_ok-head.ensures.moved c.in_ok-judge_places.ensures.answer
    c.in_ok-judge_places.ensures.moved

pub returns-in_err-judge_records : goal.returns-in_err-judge_records
returns-in_err-judge_records c =
    let p = err_from_is_err_and c.from_residual-in_err-judge_records.result c.from_residual-in_err-judge_records.ensures.1 in
    rw (p.1, p.2)
    (refused_by_records c.new-reader.ensures c.in_ok-head.ensures.answer c.in_ok-head.ensures.moved c.in_ok-judge_places.ensures.answer
    c.in_ok-judge_places.ensures.moved c.in_err-judge_records.ensures.answer)

pub returns-in_err-rows : goal.returns-in_err-rows
returns-in_err-rows c =
    let p = err_from_is_err_and c.from_residual-in_err-rows.result c.from_residual-in_err-rows.ensures.1 in
    rw (p.1, p.2)
    (refused_by_row_count c.new-reader.ensures c.in_ok-head.ensures.answer c.in_ok-head.ensures.moved c.in_ok-judge_places.ensures.answer
    c.in_ok-judge_places.ensures.moved c.in_ok-judge_records.ensures.answer c.in_ok-judge_records.ensures.moved c.in_err-rows.ensures.answer)

pub returns-in_err-judge_rows : goal.returns-in_err-judge_rows
returns-in_err-judge_rows c =
    let p = err_from_is_err_and c.from_residual-in_err-judge_rows.result c.from_residual-in_err-judge_rows.ensures.1 in
    rw (p.1, p.2)
    (refused_by_rows c.new-reader.ensures c.in_ok-head.ensures.answer c.in_ok-head.ensures.moved c.in_ok-judge_places.ensures.answer
    c.in_ok-judge_places.ensures.moved c.in_ok-judge_records.ensures.answer c.in_ok-judge_records.ensures.moved c.in_ok-rows.ensures.answer
    c.in_ok-rows.ensures.moved c.in_err-judge_rows.ensures.answer)

pub returns-then-reader-bytes : goal.returns-then-reader-bytes
returns-then-reader-bytes c =
    refused_by_end c.new-reader.ensures c.in_ok-head.ensures.answer c.in_ok-head.ensures.moved c.in_ok-judge_places.ensures.answer
    c.in_ok-judge_places.ensures.moved c.in_ok-judge_records.ensures.answer c.in_ok-judge_records.ensures.moved c.in_ok-rows.ensures.answer
    c.in_ok-rows.ensures.moved c.in_ok-judge_rows.ensures.answer c.in_ok-judge_rows.ensures.moved c.if-reader-bytes.true

-- how far the records reach
reach : (c : Else-reader-bytes) →
    c.judge_places.new.reader.at + 3 * c.in_ok-head.head.applicants + start_of c.args.bytes.now (applicants_in c.args.bytes.now)
    ≡ c.judge_records.new.reader.at
reach c =
    entries_found c.new-reader.ensures c.in_ok-head.ensures.answer c.in_ok-head.ensures.moved c.in_ok-judge_places.ensures.answer
    c.in_ok-judge_places.ensures.moved c.in_ok-judge_records.ensures.answer c.in_ok-judge_records.ensures.moved

pub overflow_sub-entries : goal.overflow_sub-entries
overflow_sub-entries c = omega (arith, reach c)

pub overflow_sub-entries-2 : goal.overflow_sub-entries-2
overflow_sub-entries-2 c = omega (arith, reach (goal.at.overflow_sub-entries-2 c).Else-reader-bytes)

pub returns : goal.returns
returns c =
    accepted c.new-reader.ensures c.in_ok-head.ensures.answer c.in_ok-head.ensures.moved c.in_ok-judge_places.ensures.answer
    c.in_ok-judge_places.ensures.moved c.in_ok-judge_records.ensures.answer c.in_ok-judge_records.ensures.moved c.in_ok-rows.ensures.answer
    c.in_ok-rows.ensures.moved c.in_ok-judge_rows.ensures.answer c.in_ok-judge_rows.ensures.moved c.if-reader-bytes.false
