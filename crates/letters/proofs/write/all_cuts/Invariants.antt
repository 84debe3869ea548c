-- The windows that are left are those behind the cuts so far, and these are told.
use Rattle.std.proofs.Common.{◌≡◌, ℕ, ◌+◌, ◌-◌, ◌<◌, length, drop, get_or}
use Rattle.std.specs.Slice.Iter.{windows_rest, windows_size}
use Rattle.codec.specs.Rounds.{tables_of}
use Rattle.cuts.specs.Cuts.{cut_of_bench}
use Rattle.cuts.specs.declared.Cut.TheVariants.{Open}
use Rattle.letters.specs.Written.{bench_in}
use Rattle.letters.proofs.write.all_cuts.Given as goal

abbrev pub invariant-loop-w : goal.invariant-loop-w
invariant-loop-w l = record {
  pair : windows_size l.w-iterator.iter ≡ 2;
  left : l.w-iterator.count + length (windows_rest l.w-iterator.iter) ≡ length l.round.seats.now;
  rest : windows_rest l.w-iterator.iter ≡ drop (length l.round.seats.now - length (windows_rest l.w-iterator.iter)) l.round.seats.now;
  long : length l.cuts ≡ 256;
  told : (v : ℕ) → v < l.w-iterator.count → get_or l.cuts v Open ≡ cut_of_bench (tables_of l.round) (bench_in (tables_of l.round) l.benches v);
}
