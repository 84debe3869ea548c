use Rattle.std.proofs.Common.{◌≡◌, ◌++◌, string_bytes}
use Rattle.layout.specs.Slices.{flat}
use Rattle.cuts.specs.Promised.{cut_at}
use Rattle.office.specs.Settling.{tables_settled}
use Rattle.texts.specs.Text.{cut_line}
use Rattle.office.proofs.printing.push_cuts.Given as goal

abbrev pub invariant-loop-w : goal.invariant-loop-w
invariant-loop-w l = string_bytes l.text ≡ string_bytes l.initial.text ++ flat (λ w. cut_line w (cut_at (tables_settled l.settled) w)) l.w
