-- An instruction decoded from an op and a number, and encoded again. Assumes nothing.
use Rattle.std.specs.Prelude.{ℕ, List, length, ℤ, pos, negsuc, Some, None, Option, ◌==◌, nat_lt, slice_index_or, option_map, option_and_then, if◌then◌else◌}
use Rattle.sheet.specs.Instructions.{op_of, operand_of, instruction_of}
use Rattle.sheet.specs.Ops.{op_row}
use Rattle.sheet.specs.declared.instruction.Instruction.{Instruction}
use Rattle.sheet.specs.declared.instruction.Operand.{Operand}
use Rattle.sheet.specs.declared.instruction.Operand.TheVariants.{Nothing, Number, Index, Location}
use Rattle.sheet.specs.declared.location.PlainLocation.{PlainLocation}
use Rattle.sheet.specs.declared.op.OperandUse.{OperandUse}
use Rattle.sheet.specs.declared.op.OperandUse.TheVariants as UseOf
use Rattle.sheet.specs.declared.records.ReadInstruction.{ReadInstruction}
use Rattle.sheet.specs.declared.records.Signature.{Signature}
use Rattle.check_rules.specs.Effects.{Place, no_signature}

-- a number that is one of the first n naturals
abbrev pub below : ℤ → ℕ → Option ℕ
below (pos k) n = if nat_lt k n then Some k else None
below (negsuc k) n = None

-- a number that must be 0
abbrev pub zero_only : {P : Type 0} → ℤ → Option (Operand P)
zero_only (pos k) = if k == 0 then Some Nothing else None
zero_only (negsuc k) = None

-- a library method, if it is watched
abbrev pub watched_only : List Signature → Option ℕ → Option ℕ
watched_only ss None = None
watched_only ss (Some h) = if (slice_index_or ss h no_signature).watched then Some h else None

-- what a number means as an operand, if it means anything there
abbrev pub meaning : Place → OperandUse → ℤ → Option (Operand PlainLocation)
meaning p UseOf.Unused z = zero_only z
meaning p UseOf.Number z = Some (Number z)
meaning p UseOf.Argument z = option_map Index (below z p.own.arguments)
meaning p UseOf.Local z = option_map Index (below z p.own.locals)
meaning p UseOf.Location z = option_map (λ t. Location (record { number = t })) (below z p.count)
meaning p UseOf.OwnMethod z = option_map Index (below z (length p.shapes))
meaning p UseOf.LibraryMethod z = option_map Index (below z (length p.library))
meaning p UseOf.WatchedMethod z = option_map Index (watched_only p.library (below z (length p.library)))

-- the instruction that a read one is, if its operand means something
abbrev pub decoded : Place → ReadInstruction → Option (Instruction PlainLocation)
decoded p r = option_and_then (instruction_of r.op) (meaning p (op_row r.op).operand r.operand)

-- an operand as a number
abbrev pub operand_number : {P : Type 0} → (P → ℕ) → Operand P → ℤ
operand_number num Nothing = pos 0
operand_number num (Number z) = z
operand_number num (Index k) = pos k
operand_number num (Location t) = pos (num t)

-- an instruction as a text has it
abbrev pub encoded : {P : Type 0} → (P → ℕ) → Instruction P → ReadInstruction
encoded num i = record { op = op_of i; operand = operand_number num (operand_of i) }
