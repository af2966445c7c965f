-- What an instruction does to the depth of the stack and where control goes from it. Assumes nothing.
use Rattle.std.specs.Prelude.{ℕ, ◌+◌, Bool, true, false, List, Some, None, Option, slice_index_or}
use Rattle.sheet.specs.Instructions.{op_of, operand_of}
use Rattle.sheet.specs.Numbers.{flag}
use Rattle.sheet.specs.Ops.{op_row}
use Rattle.sheet.specs.View.{no_shape}
use Rattle.sheet.specs.declared.instruction.Instruction.{Instruction}
use Rattle.sheet.specs.declared.instruction.Operand.{Operand}
use Rattle.sheet.specs.declared.instruction.Operand.TheVariants.{Nothing, Number, Index, Location}
use Rattle.sheet.specs.declared.op.Amount.{Amount}
use Rattle.sheet.specs.declared.op.Amount.TheVariants.{Fixed, Arguments, Gives, ArgumentsAndGives, ArgumentsAndOne, OwnGives}
use Rattle.sheet.specs.declared.op.OperandUse.{OperandUse}
use Rattle.sheet.specs.declared.op.OperandUse.TheVariants as UseOf
use Rattle.sheet.specs.declared.records.Shape.{Shape}
use Rattle.sheet.specs.declared.records.Signature.{Signature}
use Rattle.check_rules.specs.declared.effect.Effect.{Effect}

-- what is known around an instruction: the library, the shapes of all own methods, the shape of its own method, and how many
-- instructions that has
pub record Place : Type 0 where
  pub library : List Signature
  pub shapes : List Shape
  pub own : Shape
  pub count : ℕ

-- what stands for a library method where there is none
abbrev pub no_signature : Signature
no_signature = record { arguments = 0; gives = false; watched = false }

-- an own method as those who call it see it
abbrev pub seen : Shape → Signature
seen s = record { arguments = s.arguments; gives = s.gives; watched = false }

-- the method that an operand names, by what the operand means
abbrev pub named : Place → OperandUse → ℕ → Signature
named p UseOf.Unused k = no_signature
named p UseOf.Number k = no_signature
named p UseOf.Argument k = no_signature
named p UseOf.Local k = no_signature
named p UseOf.Location k = no_signature
named p UseOf.OwnMethod k = seen (slice_index_or p.shapes k no_shape)
named p UseOf.LibraryMethod k = slice_index_or p.library k no_signature
named p UseOf.WatchedMethod k = slice_index_or p.library k no_signature

-- how many values an amount is, for a named method, in a method that gives a value or not
abbrev pub amount_of : Amount → Signature → Bool → ℕ
amount_of (Fixed n) s own = n
amount_of Arguments s own = s.arguments
amount_of Gives s own = flag s.gives
amount_of ArgumentsAndGives s own = s.arguments + flag s.gives
amount_of ArgumentsAndOne s own = s.arguments + 1
amount_of OwnGives s own = flag own

-- whether nothing else may be on the stack
abbrev pub is_exact : Amount → Bool
is_exact (Fixed n) = false
is_exact Arguments = false
is_exact Gives = false
is_exact ArgumentsAndGives = false
is_exact ArgumentsAndOne = false
is_exact OwnGives = true

-- the index that an operand is
abbrev pub index_of : {P : Type 0} → Operand P → ℕ
index_of Nothing = 0
index_of (Number k) = 0
index_of (Index k) = k
index_of (Location t) = 0

-- the location that it is, by its number
abbrev pub target_of : {P : Type 0} → (P → ℕ) → Operand P → Option ℕ
target_of num Nothing = None
target_of num (Number k) = None
target_of num (Index k) = None
target_of num (Location t) = Some (num t)

-- the effect of an instruction
abbrev pub effect_of : {P : Type 0} → (P → ℕ) → Place → Instruction P → Effect
effect_of num p i =
    let row = op_row (op_of i) in
    let method = named p row.operand (index_of (operand_of i)) in
    record { takes = amount_of row.takes method p.own.gives; leaves = amount_of row.leaves method p.own.gives; falls = row.falls; exact = is_exact row.takes; jump = target_of num (operand_of i) }
