-- The theorem of proofs/Defined.antt.
use Rattle.cuts.proofs.Defined.{cuts_defined}
use Rattle.cuts.proofs.laws.cuts_defined.Goals as goal

pub returns : goal.returns
returns c = cuts_defined
