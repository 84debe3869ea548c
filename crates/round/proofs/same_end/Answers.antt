use Rattle.round.proofs.Theorems.{same_end}
use Rattle.round.proofs.same_end.Goals as goal

pub returns : goal.returns
returns c = same_end
