use Rattle.round.proofs.Promised.{more_applicants}
use Rattle.round.proofs.given.more_applicants.Goals as goal

pub returns : goal.returns
returns c = more_applicants
