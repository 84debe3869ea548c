use Rattle.round.proofs.Cuts.{has_cuts}
use Rattle.round.proofs.given.has_cuts.Goals as goal

pub returns : goal.returns
returns c = has_cuts
