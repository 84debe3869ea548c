use Rattle.texts.specs.Words.{wish_line}
use Rattle.texts.proofs.letter_words.push_wish.Goals as goal
use Rattle.texts.proofs.letter_words.push_wish.Goals.{then-reached, else-reached}

pub returns : goal.returns
unfolding wish_line
returns c =
    elim c.if-reached.branch [
      | then-reached w ↦ rw w.if-reached.true (rw w.reached-is at c.writeln.ensures.bytes)
      | else-reached w ↦ rw w.if-reached.false (rw w.reached-is at c.writeln.ensures.bytes)
    ]
