use Rattle.round.proofs.Promised.{truthful}
use Rattle.round.proofs.given.truthful.Goals as goal

pub returns : goal.returns
returns c = truthful
