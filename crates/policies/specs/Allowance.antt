-- The rule of the allowance, over what is left for each of the methods 0 to 31. Assumes nothing.
use Rattle.std.specs.Prelude.{ℕ, ◌-◌, if◌then◌else◌, ◌&&◌, List, pos, nat_lt, slice_index, slice_set}
use Rattle.interface.specs.Rules.{PolicyRule}
use Rattle.interface.specs.declared.answers.QuestionKind.TheVariants.{Before, After, Except}
use Rattle.interface.specs.declared.answers.PolicyAnswer.{PolicyAnswer}
use Rattle.interface.specs.declared.answers.PolicyAnswer.TheVariants.{Pass, Stop}

-- a before of a method: it is counted down; at zero and above method 31 it stops with 1
abbrev pub counted : List ℕ → ℕ → PolicyAnswer × List ℕ
counted left m =
    if nat_lt m 32 && nat_lt 0 (slice_index left m) then (Pass, slice_set left m (slice_index left m - 1))
    else (Stop (pos 1), left)

-- the rule of the allowance: questions other than befores pass
abbrev pub allowance_rule : PolicyRule (List ℕ)
allowance_rule left Before m vs = counted left m
allowance_rule left After m vs = (Pass, left)
allowance_rule left Except m vs = (Pass, left)
