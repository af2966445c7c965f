-- An instruction as an op and its operand, and back. Assumes nothing.
use Rattle.std.specs.Prelude.{ℕ, ℤ, Some, None, Option}
use Rattle.sheet.specs.declared.instruction.Instruction.{Instruction}
use Rattle.sheet.specs.declared.instruction.Instruction.TheVariants as code
use Rattle.sheet.specs.declared.instruction.Operand.{Operand}
use Rattle.sheet.specs.declared.instruction.Operand.TheVariants.{Nothing, Number, Index, Location}
use Rattle.sheet.specs.declared.op.Op.{Op}
use Rattle.sheet.specs.declared.op.Op.TheVariants.{LoadConstant, LoadArgument, LoadLocal, StoreLocal, Pop, Add, Subtract, CompareEqual, CompareLess, Branch, BranchTrue, CallOwn, CallLibrary, Return, Throw, Before, After, Except}

-- the op of an instruction
abbrev pub op_of : {P : Type 0} → Instruction P → Op
op_of (code.LoadConstant k) = LoadConstant
op_of (code.LoadArgument i) = LoadArgument
op_of (code.LoadLocal i) = LoadLocal
op_of (code.StoreLocal i) = StoreLocal
op_of code.Pop = Pop
op_of code.Add = Add
op_of code.Subtract = Subtract
op_of code.CompareEqual = CompareEqual
op_of code.CompareLess = CompareLess
op_of (code.Branch t) = Branch
op_of (code.BranchTrue t) = BranchTrue
op_of (code.CallOwn m) = CallOwn
op_of (code.CallLibrary h) = CallLibrary
op_of code.Return = Return
op_of code.Throw = Throw
op_of (code.Before h) = Before
op_of (code.After h) = After
op_of (code.Except h) = Except

-- its operand
abbrev pub operand_of : {P : Type 0} → Instruction P → Operand P
operand_of (code.LoadConstant k) = Number k
operand_of (code.LoadArgument i) = Index i
operand_of (code.LoadLocal i) = Index i
operand_of (code.StoreLocal i) = Index i
operand_of code.Pop = Nothing
operand_of code.Add = Nothing
operand_of code.Subtract = Nothing
operand_of code.CompareEqual = Nothing
operand_of code.CompareLess = Nothing
operand_of (code.Branch t) = Location t
operand_of (code.BranchTrue t) = Location t
operand_of (code.CallOwn m) = Index m
operand_of (code.CallLibrary h) = Index h
operand_of code.Return = Nothing
operand_of code.Throw = Nothing
operand_of (code.Before h) = Index h
operand_of (code.After h) = Index h
operand_of (code.Except h) = Index h

-- an instruction whose op has no operand, a number, an index or a location as its operand
abbrev pub with_nothing : {P : Type 0} → Instruction P → Operand P → Option (Instruction P)
with_nothing i Nothing = Some i
with_nothing i (Number k) = None
with_nothing i (Index k) = None
with_nothing i (Location t) = None

abbrev pub with_number : {P : Type 0} → (ℤ → Instruction P) → Operand P → Option (Instruction P)
with_number f Nothing = None
with_number f (Number k) = Some (f k)
with_number f (Index k) = None
with_number f (Location t) = None

abbrev pub with_index : {P : Type 0} → (ℕ → Instruction P) → Operand P → Option (Instruction P)
with_index f Nothing = None
with_index f (Number k) = None
with_index f (Index k) = Some (f k)
with_index f (Location t) = None

abbrev pub with_location : {P : Type 0} → (P → Instruction P) → Operand P → Option (Instruction P)
with_location f Nothing = None
with_location f (Number k) = None
with_location f (Index k) = None
with_location f (Location t) = Some (f t)

-- the instruction of an op with an operand, if the op has an operand of that sort
abbrev pub instruction_of : {P : Type 0} → Op → Operand P → Option (Instruction P)
instruction_of LoadConstant x = with_number code.LoadConstant x
instruction_of LoadArgument x = with_index code.LoadArgument x
instruction_of LoadLocal x = with_index code.LoadLocal x
instruction_of StoreLocal x = with_index code.StoreLocal x
instruction_of Pop x = with_nothing code.Pop x
instruction_of Add x = with_nothing code.Add x
instruction_of Subtract x = with_nothing code.Subtract x
instruction_of CompareEqual x = with_nothing code.CompareEqual x
instruction_of CompareLess x = with_nothing code.CompareLess x
instruction_of Branch x = with_location code.Branch x
instruction_of BranchTrue x = with_location code.BranchTrue x
instruction_of CallOwn x = with_index code.CallOwn x
instruction_of CallLibrary x = with_index code.CallLibrary x
instruction_of Return x = with_nothing code.Return x
instruction_of Throw x = with_nothing code.Throw x
instruction_of Before x = with_index code.Before x
instruction_of After x = with_index code.After x
instruction_of Except x = with_index code.Except x
