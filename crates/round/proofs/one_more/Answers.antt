use Rattle.round.proofs.Theorems.{one_more}
use Rattle.round.proofs.one_more.Goals as goal

pub returns : goal.returns
returns c = one_more
