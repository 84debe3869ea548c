-- Both ways of asking, on a sorted bench.
use Rattle.bench.proofs.Laws.{taken_in_after, left_out_out}
use Rattle.bench.proofs.up_or_down.Goals as goal

pub returns : goal.returns
returns c = λ v x bench sorted. (taken_in_after v x bench sorted, left_out_out v x bench sorted)
