-- The loop keeps: the entries so far are the list's.
use Rattle.std.proofs.Common.{◌≡◌, take}
use Rattle.codec.proofs.output.put_list.Given as goal

abbrev pub invariant-loop-j : goal.invariant-loop-j
invariant-loop-j l = take l.j l.out ≡ take l.j l.list
