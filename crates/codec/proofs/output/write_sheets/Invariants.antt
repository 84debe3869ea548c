-- The loop keeps: the sheets so far lie over the front of the bytes.
use Rattle.std.proofs.Common.{◌≡◌}
use Rattle.layout.specs.Slices.{flat, over}
use Rattle.layout.specs.Encode.{sheet_bytes}
use Rattle.codec.specs.Rounds.{tables_of}
use Rattle.codec.proofs.output.write_sheets.Given as goal

abbrev pub invariant-loop-w : goal.invariant-loop-w
invariant-loop-w l = l.out ≡ over (flat (sheet_bytes (tables_of l.round)) l.w) l.initial.out
