use Rattle.std.proofs.Common.{◌≡◌, drop}
use Rattle.check_rules.specs.Check.{catches}
use Rattle.check_rules.specs.Depths.{caught}
use Rattle.checking.proofs.method.MethodCheck.mark_catches.Given as goal

abbrev pub invariant-loop-handler : goal.invariant-loop-handler
invariant-loop-handler l = caught (catches l.self.handlers.now) l.initial.depths ≡ caught (catches (drop l.handler-index l.self.handlers.now)) l.depths
