-- The bench of all who asked holds the best of them.
use Rattle.bench.proofs.Holding.{best_of_after_all}
use Rattle.bench.proofs.all_asks.Goals as goal

pub returns : goal.returns
returns c = λ v places xs none. best_of_after_all v none places xs
