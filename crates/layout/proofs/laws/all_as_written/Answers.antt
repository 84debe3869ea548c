-- The theorem of proofs/RoundTrip.antt.
use Rattle.layout.proofs.RoundTrip.{all_as_written}
use Rattle.layout.proofs.laws.all_as_written.Goals as goal

pub returns : goal.returns
returns c = all_as_written
