use Rattle.round.proofs.Bridge.{by_market}
use Rattle.round.proofs.given.by_market.Goals as goal

pub returns : goal.returns
returns c = by_market
