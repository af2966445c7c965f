use Rattle.std.proofs.Common.{◌≡◌, take}
use Rattle.check_rules.specs.Check.{shapes_of}
use Rattle.checking.proofs.check.own_shapes.Given as goal

abbrev pub invariant-loop-method : goal.invariant-loop-method
invariant-loop-method l = l.shapes.items ≡ take l.method (shapes_of l.read.methods)
