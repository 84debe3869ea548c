-- The loop keeps: where the next record begins, that none so far is at fault, and which lots the flags say that applicants have.
use Rattle.std.proofs.Common.{◌≡◌, ℕ, ◌<◌, false, length, get_or, None}
use Rattle.layout.specs.Bytes.{first_of, record_at, record_fault, lot_seen}
use Rattle.codec.specs.Readers.{Stands}
use Rattle.codec.proofs.judge.judge_records.Given as goal

abbrev pub invariant-loop-a : goal.invariant-loop-a
invariant-loop-a l =
    record {
      stands : Stands l.reader l.fn.reader.bytes.now (record_at l.fn.reader.bytes.now l._a);
      clean : first_of (record_fault l.fn.reader.bytes.now) l._a ≡ None;
      flags : length l.seen ≡ 65536;
      seen : (v : ℕ) → v < 65536 → get_or l.seen v false ≡ lot_seen l.fn.reader.bytes.now v l._a;
    }
