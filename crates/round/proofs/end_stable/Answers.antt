use Rattle.round.proofs.Theorems.{end_stable}
use Rattle.round.proofs.end_stable.Goals as goal

pub returns : goal.returns
returns c = end_stable
