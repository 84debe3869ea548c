use Rattle.round.proofs.Theorems.{same_numbers}
use Rattle.round.proofs.same_numbers.Goals as goal

pub returns : goal.returns
returns c = same_numbers
