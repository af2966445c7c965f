-- The number and the two places of each fault of the check. Assumes nothing.
use Rattle.std.specs.Prelude.{ℕ}
use Rattle.refusal.specs.declared.Refusal.{Refusal}
use Rattle.check_rules.specs.declared.faults.CheckFault.{CheckFault}
use Rattle.check_rules.specs.declared.faults.CheckFault.TheVariants.{NoMethod, Method}
use Rattle.check_rules.specs.declared.faults.MethodFault.{MethodFault}
use Rattle.check_rules.specs.declared.faults.MethodFault.TheVariants.{NoInstruction, TooManyCells, Operand, Handler, Depth}

-- a fault of the method k
abbrev pub method_refusal : ℕ → MethodFault → Refusal
method_refusal k NoInstruction = record { number = 7; first = k; second = 0 }
method_refusal k TooManyCells = record { number = 8; first = k; second = 0 }
method_refusal k (Operand location) = record { number = 9; first = k; second = location }
method_refusal k (Handler handler) = record { number = 10; first = k; second = handler }
method_refusal k (Depth location) = record { number = 11; first = k; second = location }

abbrev pub check_refusal : CheckFault → Refusal
check_refusal NoMethod = record { number = 6; first = 0; second = 0 }
check_refusal (Method k f) = method_refusal k f
