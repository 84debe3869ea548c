use Rattle.office.proofs.Promising.{proper_read}
use Rattle.office.proofs.OtherLists.{no_list_gains}
use Rattle.office.proofs.laws.truthful.Goals as goal

pub returns : goal.returns
returns c = λ b d t u a small_b small-d read-b read-d l other. no_list_gains t u (proper_read b t small_b read-b) (proper_read d u small-d read-d) a l other
