use Rattle.round.proofs.Theorems.{not_all_gain}
use Rattle.round.proofs.not_all_gain.Goals as goal

pub returns : goal.returns
returns c = not_all_gain
