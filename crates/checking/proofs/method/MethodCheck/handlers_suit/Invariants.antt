use Rattle.std.proofs.Common.{◌≡◌, drop}
use Rattle.check_rules.specs.Check.{handled_from}
use Rattle.checking.proofs.method.MethodCheck.handlers_suit.Given as goal

-- what is left of the handlers gives the answer
abbrev pub invariant-loop-at : goal.invariant-loop-at
invariant-loop-at l = handled_from l.self.around.own.stack_limit l.self.around.count 0 l.self.handlers.now ≡ handled_from l.self.around.own.stack_limit l.self.around.count l.at (drop l.at l.self.handlers.now)
