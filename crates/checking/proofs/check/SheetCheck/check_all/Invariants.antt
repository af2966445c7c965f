use Rattle.checking.specs.Methods.{MadeUpTo}
use Rattle.checking.proofs.check.SheetCheck.check_all.Given as goal

abbrev pub invariant-loop-method : goal.invariant-loop-method
invariant-loop-method l = MadeUpTo l.self.read.now l.method-counter l.out
