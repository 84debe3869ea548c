use Rattle.round.proofs.Cuts.{readable}
use Rattle.round.proofs.given.readable.Goals as goal

pub returns : goal.returns
returns c = readable
