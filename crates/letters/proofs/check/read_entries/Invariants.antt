-- So far there is no fault, the workshops of the entries so far are marked, and the first reached of them is known.
use Rattle.std.proofs.Common.{◌≡◌, ℕ, ◌<◌, false, length, get_or, None}
use Rattle.layout.specs.Bytes.{first_of}
use Rattle.cuts.specs.Cuts.{first_that}
use Rattle.letters.specs.Faults.{listed_fault, workshop_seen, reached_in}
use Rattle.letters.proofs.check.read_entries.Given as goal

abbrev pub invariant-loop-j : goal.invariant-loop-j
invariant-loop-j l = record {
  sound : first_of (listed_fault l.bytes) l.j ≡ None;
  marks : length l.seen ≡ 256;
  marked : (w : ℕ) → w < 256 → get_or l.seen w false ≡ workshop_seen l.bytes w l.j;
  first : l.first ≡ first_that (reached_in l.bytes) l.j;
}
