use Rattle.round.proofs.Theorems.{end_dearest}
use Rattle.round.proofs.end_dearest.Goals as goal

pub returns : goal.returns
returns c = end_dearest
