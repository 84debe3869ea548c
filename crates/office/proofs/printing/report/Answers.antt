use Rattle.std.proofs.Common.{ap₂}
use Rattle.texts.specs.Text.{head_line, text_of}
use Rattle.texts.proofs.Appends.{three_parts}
use Rattle.office.proofs.printing.report.Goals as goal

pub returns : goal.returns
unfolding text_of
returns c =
    three_parts _ _ _ _ _ _ _ _ c.in_ok-text.ensures.bytes (ap₂ head_line c.asks.ensures c.placed.ensures)
    c.in_ok-push_head.ensures c.in_ok-push_applicants.ensures c.in_ok-push_cuts.ensures
