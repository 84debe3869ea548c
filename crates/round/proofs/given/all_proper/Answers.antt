use Rattle.round.proofs.Judging.{all_proper}
use Rattle.round.proofs.given.all_proper.Goals as goal

pub returns : goal.returns
returns c = all_proper
