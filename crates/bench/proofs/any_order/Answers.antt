-- Shuffled askers are as many of each kind.
use Rattle.bench.proofs.Numbers.{number_shuffled}
use Rattle.bench.proofs.Orders.{any_order_from}
use Rattle.bench.proofs.any_order.Goals as goal

pub returns : goal.returns
returns c = λ v places xs ys none apart moved. any_order_from v none places xs ys apart (number_shuffled xs ys moved)
