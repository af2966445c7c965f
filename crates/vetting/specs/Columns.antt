-- Where the fields of a line stand. Assumes nothing.
use Rattle.std.specs.Prelude.{ℕ, ◌+◌, List, [], ◌∷◌}
use Rattle.sheet.specs.Fields.{width_of}
use Rattle.sheet.specs.declared.fields.Field.{Field}
use Rattle.sheet.specs.declared.fields.Field.TheVariants.{Arguments, Gives, Watched, Locals, StackLimit, Op, Operand, TryBegin, TryEnd, Kind, CatchBegin, CatchEnd}

-- the first columns of fields that stand side by side from a column on
abbrev pub starts : ℕ → List Field → List ℕ
starts column [] = []
starts column (f ∷ fs) = column ∷ starts (column + width_of f) fs

-- the first column of a field
abbrev pub first_column : Field → ℕ
first_column Arguments = 2
first_column Gives = 8
first_column Watched = 14
first_column Locals = 14
first_column StackLimit = 20
first_column Op = 2
first_column Operand = 8
first_column TryBegin = 2
first_column TryEnd = 8
first_column Kind = 14
first_column CatchBegin = 20
first_column CatchEnd = 26
