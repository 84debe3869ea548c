use Rattle.round.proofs.Rounds.{worked_out}
use Rattle.round.proofs.given.worked_out.Goals as goal

pub returns : goal.returns
returns c = worked_out
