-- The loop keeps where the next record begins, and that a record is no longer than its count can say.
use Rattle.std.proofs.Common.{◌≡◌, ◌+◌, ◌*◌, ◌≤◌}
use Rattle.layout.specs.Bytes.{record_at}
use Rattle.codec.proofs.measuring.measure.Given as goal

abbrev pub invariant-loop-a : goal.invariant-loop-a
invariant-loop-a l =
    (l.at ≡ record_at l.bytes l._a)
    × (l.at ≤ l.records_from + 258 * l._a)
