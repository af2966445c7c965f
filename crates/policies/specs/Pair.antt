-- The rule of a pair of policies, worked out from theirs. Assumes nothing.
use Rattle.interface.specs.Rules.{PolicyRule}
use Rattle.interface.specs.declared.answers.PolicyAnswer.{PolicyAnswer}
use Rattle.interface.specs.declared.answers.PolicyAnswer.TheVariants.{Pass, Stop}

-- the first's step, and the second's only if the first passed; else the second keeps its state
abbrev pub then_second : {S U : Type 0} → PolicyAnswer × S → U → PolicyAnswer × U → PolicyAnswer × (S × U)
then_second (Pass, s) u (answer, next) = (answer, (s, next))
then_second (Stop c, s) u (answer, next) = (Stop c, (s, u))

-- the rule of a pair, over the states of both
abbrev pub pair_rule : {S U : Type 0} → PolicyRule S → PolicyRule U → PolicyRule (S × U)
pair_rule first second s kind m vs = then_second (first s.0 kind m vs) s.1 (second s.1 kind m vs)
