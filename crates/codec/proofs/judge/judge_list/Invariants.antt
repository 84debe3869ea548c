-- The loop keeps: where the next entry stands, that none so far is at fault, and which entries the flags say that the list has.
use Rattle.std.proofs.Common.{◌≡◌, ℕ, ◌+◌, ◌<◌, false, length, get_or, None}
use Rattle.layout.specs.Bytes.{first_of}
use Rattle.codec.specs.Readers.{Stands, entry_fault_at, stands_in}
use Rattle.codec.proofs.judge.judge_list.Given as goal

abbrev pub invariant-loop-j : goal.invariant-loop-j
invariant-loop-j l =
    record {
      stands : Stands l.reader l.fn.reader.bytes.now (l.at + 1 + l._j);
      clean : first_of (entry_fault_at l.fn.reader.bytes.now l.workshops l.at) l._j ≡ None;
      flags : length l.seen ≡ 256;
      seen : (v : ℕ) → v < 256 → get_or l.seen v false ≡ stands_in l.fn.reader.bytes.now (l.at + 1) v l._j;
    }
