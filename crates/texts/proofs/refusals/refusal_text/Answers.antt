use Rattle.std.proofs.lemmas.Result.{IfOk-weaker}
use Rattle.texts.specs.Text.{refusal_line}
use Rattle.texts.proofs.refusals.refusal_text.Goals as goal

pub returns : goal.returns
unfolding refusal_line
returns c = IfOk-weaker c.format.result _ _ (λ s h. cc) c.format.ensures.ok
