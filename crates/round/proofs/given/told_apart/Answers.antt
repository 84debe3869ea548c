use Rattle.round.proofs.Judging.{told_apart}
use Rattle.round.proofs.given.told_apart.Goals as goal

pub returns : goal.returns
returns c = told_apart
