-- The loop keeps: the places so far are those of the tables.
use Rattle.std.proofs.Common.{◌≡◌, take}
use Rattle.layout.specs.Slices.{table}
use Rattle.layout.specs.Tables.{places_at}
use Rattle.codec.specs.Rounds.{tables_of}
use Rattle.codec.proofs.output.write_places.Given as goal

abbrev pub invariant-loop-w : goal.invariant-loop-w
invariant-loop-w l = take l.w l.out ≡ table (places_at (tables_of l.round)) l.w
