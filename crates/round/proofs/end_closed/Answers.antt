use Rattle.round.proofs.Theorems.{end_closed}
use Rattle.round.proofs.end_closed.Goals as goal

pub returns : goal.returns
returns c = end_closed
