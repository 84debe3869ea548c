-- The theorem of proofs/RoundTrip.antt.
use Rattle.layout.proofs.RoundTrip.{reads_back}
use Rattle.layout.proofs.laws.reads_back.Goals as goal

pub returns : goal.returns
returns c = reads_back
