use Rattle.round.proofs.Cuts.{first_reached}
use Rattle.round.proofs.given.first_reached.Goals as goal

pub returns : goal.returns
returns c = first_reached
