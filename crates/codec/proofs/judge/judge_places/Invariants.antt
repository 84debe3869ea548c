-- The loop keeps: where the next places stand, and that none so far is at fault.
use Rattle.std.proofs.Common.{◌≡◌, ◌+◌, None}
use Rattle.layout.specs.Bytes.{first_of, places_fault, places_from}
use Rattle.codec.specs.Readers.{Stands}
use Rattle.codec.proofs.judge.judge_places.Given as goal

abbrev pub invariant-loop-w : goal.invariant-loop-w
invariant-loop-w l =
    record {
      stands : Stands l.reader l.fn.reader.bytes.now (places_from + l._w);
      clean : first_of (places_fault l.fn.reader.bytes.now) l._w ≡ None;
    }
