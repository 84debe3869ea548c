-- The theorem of proofs/Reaching.antt.
use Rattle.cuts.proofs.Reaching.{told_by_cuts}
use Rattle.cuts.proofs.laws.told_by_cuts.Goals as goal

pub returns : goal.returns
returns c = told_by_cuts
