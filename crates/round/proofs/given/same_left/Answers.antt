use Rattle.round.proofs.Promised.{same_left}
use Rattle.round.proofs.given.same_left.Goals as goal

pub returns : goal.returns
returns c = same_left
