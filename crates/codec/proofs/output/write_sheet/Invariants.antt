-- The loop keeps: the rows so far of the workshop lie over the front of the bytes.
use Rattle.std.proofs.Common.{◌≡◌, ℕ, ◌+◌}
use Rattle.layout.specs.Slices.{flat, over}
use Rattle.layout.specs.Encode.{row_bytes}
use Rattle.codec.specs.Rounds.{tables_of}
use Rattle.codec.proofs.output.write_sheet.Given as goal

abbrev pub invariant-loop-k : goal.invariant-loop-k
invariant-loop-k l = l.out ≡ over (flat (λ (k : ℕ). row_bytes (tables_of l.round) l.w (l.«from» + k)) l.k) l.initial.out
