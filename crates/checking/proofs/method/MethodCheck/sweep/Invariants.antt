use Rattle.std.proofs.Common.{◌≡◌, drop}
use Rattle.check_rules.specs.Check.{effects}
use Rattle.check_rules.specs.Depths.{swept}
use Rattle.check_rules.specs.Places.{place_of}
use Rattle.checking.proofs.method.MethodCheck.sweep.Given as goal

-- what is left of the code gives the answer
abbrev pub invariant-loop-at : goal.invariant-loop-at
invariant-loop-at l = swept (effects (place_of l.self.around) l.code) 0 l.self.around.own.stack_limit l.initial.depths ≡ swept (effects (place_of l.self.around) (drop l.at-counter l.code)) l.at-counter l.self.around.own.stack_limit l.depths
