use Rattle.round.proofs.Orders.{any_order}
use Rattle.round.proofs.given.any_order.Goals as goal

pub returns : goal.returns
returns c = any_order
