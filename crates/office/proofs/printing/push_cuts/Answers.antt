use Rattle.std.proofs.Common.{◌++◌, string_bytes, ap, ◌∙◌}
use Rattle.cuts.specs.declared.Cut.{Cut}
use Rattle.texts.specs.Text.{cut_line}
use Rattle.texts.proofs.Appends.{lines_none, lines_more}
use Rattle.office.proofs.printing.push_cuts.Goals as goal

pub loop-w-init : goal.loop-w-init
loop-w-init c = lines_none _ _

pub loop-w-preserved : goal.loop-w-preserved
loop-w-preserved c =
    lines_more _ _ _ _ c.loop-w.w c.loop-w.invariant
    (c.in_ok-push_cut.ensures ∙ ap (λ (x : Cut). string_bytes c.loop-w.text ++ cut_line c.loop-w.w x) c.cut.ensures)
