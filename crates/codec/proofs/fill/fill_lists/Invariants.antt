-- The loop keeps: where the next record and its list begin, and that lots, starts and lists so far lie over the slices.
use Rattle.std.proofs.Common.{◌≡◌, ◌*◌, ◌≤◌}
use Rattle.layout.specs.Slices.{over, table}
use Rattle.layout.specs.Bytes.{record_at, lot_in, start_of, entries_below}
use Rattle.codec.proofs.fill.fill_lists.Given as goal

abbrev pub invariant-loop-a : goal.invariant-loop-a
invariant-loop-a l =
    (l.at ≡ record_at l.bytes l.a)
    × (l.start ≡ start_of l.bytes l.a)
    × (l.start ≤ 20 * l.a)
    × (l.lots ≡ over (table (lot_in l.bytes) l.a) l.initial.lots)
    × (l.starts ≡ over (table (start_of l.bytes) l.a) l.initial.starts)
    × (l.entries ≡ over (entries_below l.bytes l.a) l.initial.entries)
