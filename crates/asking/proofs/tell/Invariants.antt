use Rattle.std.proofs.Common.{◌≡◌}
use Rattle.layout.specs.Slices.{table, over}
use Rattle.codec.specs.Rounds.{tables_of}
use Rattle.asking.specs.Asking.{told_from}
use Rattle.asking.proofs.tell.Given as goal

abbrev pub invariant-loop-a : goal.invariant-loop-a
invariant-loop-a l = l.front ≡ over (table (told_from (tables_of l.round) l.fn.results) l.a) l.initial.front
