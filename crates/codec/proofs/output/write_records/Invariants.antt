-- The loop keeps: the records so far lie over the front of the bytes.
use Rattle.std.proofs.Common.{◌≡◌}
use Rattle.layout.specs.Slices.{flat, over}
use Rattle.layout.specs.Encode.{record_bytes}
use Rattle.codec.specs.Rounds.{tables_of}
use Rattle.codec.proofs.output.write_records.Given as goal

abbrev pub invariant-loop-a : goal.invariant-loop-a
invariant-loop-a l = l.out ≡ over (flat (record_bytes (tables_of l.round)) l.a) l.initial.out
