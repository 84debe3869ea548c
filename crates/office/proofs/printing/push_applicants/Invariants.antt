use Rattle.std.proofs.Common.{◌≡◌, ◌++◌, string_bytes}
use Rattle.layout.specs.Slices.{flat}
use Rattle.points.specs.Standing.{market}
use Rattle.office.specs.Settling.{tables_settled}
use Rattle.texts.specs.Text.{applicant_line}
use Rattle.office.proofs.printing.push_applicants.Given as goal

abbrev pub invariant-loop-a : goal.invariant-loop-a
invariant-loop-a l = string_bytes l.text ≡ string_bytes l.initial.text ++ flat (applicant_line (market (tables_settled l.settled))) l.a
