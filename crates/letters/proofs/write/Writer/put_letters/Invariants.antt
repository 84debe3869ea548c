-- The letters so far lie over the part.
use Rattle.std.proofs.Common.{◌≡◌}
use Rattle.layout.specs.Slices.{flat, over}
use Rattle.codec.specs.Rounds.{tables_of}
use Rattle.letters.specs.Written.{letter_bytes}
use Rattle.letters.proofs.write.Writer.put_letters.Given as goal

abbrev pub invariant-loop-a : goal.invariant-loop-a
invariant-loop-a l = l.part ≡ over (flat (letter_bytes (tables_of l.self.round.now) l.self.left.rows.now l.self.left.results.now l.self.left.benches.now) l.a) l.initial.part
