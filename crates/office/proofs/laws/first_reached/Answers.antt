use Rattle.office.proofs.Promising.{promised_read}
use Rattle.office.proofs.laws.first_reached.Goals as goal

pub returns : goal.returns
returns c = λ b t small read. (promised_read b t small read).first_reached
