use Rattle.letters.proofs.Judged.{exact}
use Rattle.office.proofs.laws.checker_exact.Goals as goal

pub returns : goal.returns
returns c = exact
