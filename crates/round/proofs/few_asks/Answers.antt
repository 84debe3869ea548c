use Rattle.round.proofs.Theorems.{few_asks}
use Rattle.round.proofs.few_asks.Goals as goal

pub returns : goal.returns
returns c = few_asks
