use Rattle.round.proofs.Ending.{ends}
use Rattle.round.proofs.given.steps_end.Goals as goal

pub returns : goal.returns
returns c = ends
