-- The theorem of proofs/Told.antt.
use Rattle.letters.proofs.Told.{nothing_else}
use Rattle.letters.proofs.laws.nothing_else.Goals as goal

pub returns : goal.returns
returns c = nothing_else
