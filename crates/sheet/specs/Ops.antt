-- The table of the ops: of each its number, what its operand means, what it takes from the stack and leaves there, and
-- whether control goes on behind it. Assumes nothing.
use Rattle.std.specs.Prelude.{ℕ, zero, suc, true, false, List, [], ◌∷◌, None, Option}
use Rattle.std.specs.List.{slice_get}
use Rattle.sheet.specs.declared.op.Amount.{Amount}
use Rattle.sheet.specs.declared.op.Amount.TheVariants.{Fixed, Arguments, Gives, ArgumentsAndGives, ArgumentsAndOne, OwnGives}
use Rattle.sheet.specs.declared.op.Op.{Op}
use Rattle.sheet.specs.declared.op.Op.TheVariants.{LoadConstant, LoadArgument, LoadLocal, StoreLocal, Pop, Add, Subtract, CompareEqual, CompareLess, Branch, BranchTrue, CallOwn, CallLibrary, Return, Throw, Before, After, Except}
use Rattle.sheet.specs.declared.op.OperandUse.{OperandUse}
use Rattle.sheet.specs.declared.op.OperandUse.TheVariants.{Unused, Number, Argument, Local, Location, OwnMethod, LibraryMethod, WatchedMethod}
use Rattle.sheet.specs.declared.op.OpRow.{OpRow}

-- a row without a method in it, from which control goes on
abbrev pub simple_row : ℕ → OperandUse → ℕ → ℕ → OpRow
simple_row number operand takes leaves = record { number = number; operand = operand; takes = Fixed takes; leaves = Fixed leaves; falls = true }

-- such a row, with control going elsewhere or nowhere
abbrev pub last_row : ℕ → OperandUse → Amount → OpRow
last_row number operand takes = record { number = number; operand = operand; takes = takes; leaves = Fixed 0; falls = false }

-- a call of a method that the operand names
abbrev pub call_row : ℕ → OperandUse → OpRow
call_row number operand = record { number = number; operand = operand; takes = Arguments; leaves = Gives; falls = true }

-- a question to the policy about a library method
abbrev pub question_row : ℕ → Amount → OpRow
question_row number takes = record { number = number; operand = WatchedMethod; takes = takes; leaves = Fixed 0; falls = true }

-- the table
abbrev pub op_row : Op → OpRow
op_row LoadConstant = simple_row 1 Number 0 1
op_row LoadArgument = simple_row 2 Argument 0 1
op_row LoadLocal = simple_row 3 Local 0 1
op_row StoreLocal = simple_row 4 Local 1 0
op_row Pop = simple_row 5 Unused 1 0
op_row Add = simple_row 6 Unused 2 1
op_row Subtract = simple_row 7 Unused 2 1
op_row CompareEqual = simple_row 8 Unused 2 1
op_row CompareLess = simple_row 9 Unused 2 1
op_row Branch = last_row 10 Location (Fixed 0)
op_row BranchTrue = simple_row 11 Location 1 0
op_row CallOwn = call_row 12 OwnMethod
op_row CallLibrary = call_row 13 LibraryMethod
op_row Return = last_row 14 Unused OwnGives
op_row Throw = last_row 15 Unused (Fixed 1)
op_row Before = question_row 16 Arguments
op_row After = question_row 17 ArgumentsAndGives
op_row Except = question_row 18 ArgumentsAndOne

-- the number of an op
abbrev pub op_number : Op → ℕ
op_number op = (op_row op).number

-- the ops in the order of their numbers, which begin at 1
abbrev pub ops : List Op
ops = LoadConstant ∷ (LoadArgument ∷ (LoadLocal ∷ (StoreLocal ∷ (Pop ∷ (Add ∷ (Subtract ∷ (CompareEqual ∷ (CompareLess ∷ (Branch ∷ (BranchTrue ∷ (CallOwn ∷ (CallLibrary ∷ (Return ∷ (Throw ∷ (Before ∷ (After ∷ (Except ∷ [])))))))))))))))))

-- the op of a number, if there is one
abbrev pub op_numbered : ℕ → Option Op
op_numbered zero = None
op_numbered (suc n) = slice_get ops n
