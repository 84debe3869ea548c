use Rattle.round.proofs.Orders.{all_together}
use Rattle.round.proofs.given.all_together.Goals as goal

pub returns : goal.returns
returns c = all_together
