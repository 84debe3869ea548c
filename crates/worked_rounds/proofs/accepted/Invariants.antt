use Rattle.std.proofs.Common.{◌≤◌}
use Rattle.worked_rounds.proofs.accepted.Given as goal

abbrev pub invariant-loop-a : goal.invariant-loop-a
invariant-loop-a l = l.number ≤ l.a
