use Rattle.round.proofs.Theorems.{no_gain}
use Rattle.round.proofs.no_gain.Goals as goal

pub returns : goal.returns
returns c = no_gain
