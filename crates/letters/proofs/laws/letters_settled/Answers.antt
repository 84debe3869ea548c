-- The theorem of proofs/Told.antt.
use Rattle.letters.proofs.Told.{letters_settled}
use Rattle.letters.proofs.laws.letters_settled.Goals as goal

pub returns : goal.returns
returns c = letters_settled
