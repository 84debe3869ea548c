-- The entries so far lie over the part, and what is left of the lists stands behind them.
use Rattle.std.proofs.Common.{◌≡◌, ◌+◌, ◌-◌, length, take, drop}
use Rattle.std.specs.Slice.Iter.{iter_rest}
use Rattle.std.specs.List.{flat_map}
use Rattle.layout.specs.Slices.{over}
use Rattle.codec.specs.Rounds.{tables_of}
use Rattle.letters.specs.Letter.{entry_bytes}
use Rattle.letters.specs.Written.{entries_from}
use Rattle.letters.proofs.write.Writer.put_entries.Given as goal

abbrev pub invariant-loop-j : goal.invariant-loop-j
invariant-loop-j l = record {
  left : l.j-iterator.count + length (iter_rest l.j-iterator.iter.a) ≡ l.end - l.start;
  entries : iter_rest l.j-iterator.iter.a ≡ drop l.j-iterator.count (take (l.end - l.start) (drop l.start l.self.round.now.entries.now));
  rows : iter_rest l.j-iterator.iter.b ≡ drop l.j-iterator.count (take (l.end - l.start) (drop l.start l.self.left.rows.now));
  laid : l.part ≡ over (flat_map entry_bytes (entries_from (tables_of l.self.round.now) l.self.left.rows.now l.self.left.benches.now l.start l.j-iterator.count)) l.initial.part;
}
