-- The loop keeps: the sums so far lie over the slice.
use Rattle.std.proofs.Common.{◌≡◌, ◌*◌, ◌≤◌}
use Rattle.layout.specs.Slices.{over, table}
use Rattle.layout.specs.Bytes.{seats_before}
use Rattle.codec.proofs.fill.fill_seats.Given as goal

abbrev pub invariant-loop-w : goal.invariant-loop-w
invariant-loop-w l =
    (l.seats ≡ over (table (seats_before l.bytes) l.w) l.initial.seats) × (l.sum ≡ seats_before l.bytes l.w) × (l.sum ≤ 255 * l.w)
