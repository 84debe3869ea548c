use Rattle.texts.proofs.Appends.{lines_none, lines_more}
use Rattle.office.proofs.printing.push_applicants.Goals as goal

pub loop-a-init : goal.loop-a-init
loop-a-init c = lines_none _ _

pub loop-a-preserved : goal.loop-a-preserved
loop-a-preserved c = lines_more _ _ _ _ c.loop-a.a c.loop-a.invariant c.in_ok-push_applicant.ensures
