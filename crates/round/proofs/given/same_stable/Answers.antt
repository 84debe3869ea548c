use Rattle.round.proofs.Same.{same_stable}
use Rattle.round.proofs.given.same_stable.Goals as goal

pub returns : goal.returns
returns c = same_stable
