use Rattle.round.proofs.Cuts.{reached_cut}
use Rattle.round.proofs.given.reached_cut.Goals as goal

pub returns : goal.returns
returns c = reached_cut
