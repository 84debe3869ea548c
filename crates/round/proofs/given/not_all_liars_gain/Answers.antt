use Rattle.round.proofs.Promised.{not_all_liars_gain}
use Rattle.round.proofs.given.not_all_liars_gain.Goals as goal

pub returns : goal.returns
returns c = not_all_liars_gain
