use Rattle.std.proofs.Common.{take}
use Rattle.std.specs.List.{flat_map}
use Rattle.sheet.specs.Text.{method_text}
use Rattle.sheet_text.specs.Output.{Put}
use Rattle.sheet_text.proofs.writing.put_methods.Given as goal

-- the methods so far are put
abbrev pub invariant-loop-method : goal.invariant-loop-method
invariant-loop-method l = Put (flat_map method_text (take l.method l.sheet.methods)) l.initial.out l.out
