-- The loop keeps: the entries so far are the list's.
use Rattle.std.proofs.Common.{◌≡◌, take}
use Rattle.codec.proofs.fill.fill_list.Given as goal

abbrev pub invariant-loop-j : goal.invariant-loop-j
invariant-loop-j l = take l.j l.entries ≡ take l.j l.list
