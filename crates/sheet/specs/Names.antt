-- The names of ops and fields, as people write them. Assumes nothing.
use Rattle.std.specs.Prelude.{ℕ, List, codes}
use Rattle.sheet.specs.declared.fields.Field.{Field}
use Rattle.sheet.specs.declared.fields.Field.TheVariants as field
use Rattle.sheet.specs.declared.op.Op.{Op}
use Rattle.sheet.specs.declared.op.Op.TheVariants as op

abbrev pub op_name : Op → List ℕ
op_name op.LoadConstant = codes "ldc"
op_name op.LoadArgument = codes "ldarg"
op_name op.LoadLocal = codes "ldloc"
op_name op.StoreLocal = codes "stloc"
op_name op.Pop = codes "pop"
op_name op.Add = codes "add"
op_name op.Subtract = codes "sub"
op_name op.CompareEqual = codes "ceq"
op_name op.CompareLess = codes "clt"
op_name op.Branch = codes "br"
op_name op.BranchTrue = codes "brtrue"
op_name op.CallOwn = codes "call"
op_name op.CallLibrary = codes "lib"
op_name op.Return = codes "ret"
op_name op.Throw = codes "throw"
op_name op.Before = codes "before"
op_name op.After = codes "after"
op_name op.Except = codes "except"

abbrev pub field_name : Field → List ℕ
field_name field.Arguments = codes "arguments"
field_name field.Gives = codes "gives"
field_name field.Watched = codes "watched"
field_name field.Locals = codes "locals"
field_name field.StackLimit = codes "stack limit"
field_name field.Op = codes "op"
field_name field.Operand = codes "operand"
field_name field.TryBegin = codes "try begin"
field_name field.TryEnd = codes "try end"
field_name field.Kind = codes "kind"
field_name field.CatchBegin = codes "catch begin"
field_name field.CatchEnd = codes "catch end"
