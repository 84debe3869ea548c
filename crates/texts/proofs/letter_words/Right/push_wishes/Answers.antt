use Rattle.texts.proofs.Appends.{lines_none, lines_more}
use Rattle.texts.proofs.letter_words.Right.push_wishes.Goals as goal

pub loop-j-init : goal.loop-j-init
loop-j-init c = lines_none _ _

pub loop-j-preserved : goal.loop-j-preserved
loop-j-preserved c = lines_more _ _ _ _ c.loop-j.j c.loop-j.invariant c.in_ok-push_entry.ensures
