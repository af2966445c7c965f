use Rattle.std.proofs.Common.{arith, ◌∙◌}
use Rattle.std.proofs.lemmas.Result.{IfOk-weaker}
use Rattle.vetting.proofs.Columned.{columned}
use Rattle.vetting.proofs.refusal_line.refusal_line.Goals as goal

pub returns : goal.returns
returns c = IfOk-weaker c.format.result _ _ (λ s e. e ∙ grind (arith, columned)) c.format.ensures.ok
