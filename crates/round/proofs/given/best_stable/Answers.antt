use Rattle.round.proofs.Promised.{best_stable}
use Rattle.round.proofs.given.best_stable.Goals as goal

pub returns : goal.returns
returns c = best_stable
