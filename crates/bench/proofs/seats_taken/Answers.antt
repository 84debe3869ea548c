-- The number of taken seats is that of the seats with a worth.
use Rattle.bench.proofs.Orders.{seats_taken}
use Rattle.bench.proofs.seats_taken.Goals as goal

pub returns : goal.returns
returns c = λ v places xs none. seats_taken v none places xs
