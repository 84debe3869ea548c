use Rattle.round.proofs.Worth.{by_points}
use Rattle.round.proofs.given.by_points.Goals as goal

pub returns : goal.returns
returns c = by_points
