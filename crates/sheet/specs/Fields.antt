-- The fields of a line: their order, their widths and what they may hold. Assumes nothing.
use Rattle.std.specs.Prelude.{ℕ, ◌+◌, List, [], ◌∷◌, ℤ, pos, negsuc, Some, None, Option, ◌==◌, if◌then◌else◌}
use Rattle.sheet.specs.declared.fields.Field.{Field}
use Rattle.sheet.specs.declared.fields.Field.TheVariants.{Arguments, Gives, Watched, Locals, StackLimit, Op, Operand, TryBegin, TryEnd, Kind, CatchBegin, CatchEnd}
use Rattle.sheet.specs.declared.fields.Letter.{Letter}
use Rattle.sheet.specs.declared.fields.Letter.TheVariants.{L, M, I, X}

-- how many columns a field has
abbrev pub width_of : Field → ℕ
width_of Arguments = 6
width_of Gives = 6
width_of Watched = 6
width_of Locals = 6
width_of StackLimit = 6
width_of Op = 6
width_of Operand = 12
width_of TryBegin = 6
width_of TryEnd = 6
width_of Kind = 6
width_of CatchBegin = 6
width_of CatchEnd = 6

-- the least number that a field may hold
abbrev pub lowest : Field → ℤ
lowest Arguments = pos 0
lowest Gives = pos 0
lowest Watched = pos 0
lowest Locals = pos 0
lowest StackLimit = pos 0
lowest Op = pos 1
lowest Operand = negsuc 2147483647
lowest TryBegin = pos 0
lowest TryEnd = pos 0
lowest Kind = pos 1
lowest CatchBegin = pos 0
lowest CatchEnd = pos 0

-- the greatest
abbrev pub highest : Field → ℤ
highest Arguments = pos 6
highest Gives = pos 1
highest Watched = pos 1
highest Locals = pos 250
highest StackLimit = pos 64
highest Op = pos 18
highest Operand = pos 2147483647
highest TryBegin = pos 2048
highest TryEnd = pos 2048
highest Kind = pos 2
highest CatchBegin = pos 2048
highest CatchEnd = pos 2048

-- the letter of a line as a byte
abbrev pub letter_byte : Letter → ℕ
letter_byte L = 76
letter_byte M = 77
letter_byte I = 73
letter_byte X = 88

-- the letter that a byte is, if it is one
abbrev pub letter_of : ℕ → Option Letter
letter_of b = if b == 76 then Some L else if b == 77 then Some M else if b == 73 then Some I else if b == 88 then Some X else None

-- the fields of a line, from the left
abbrev pub fields_of : Letter → List Field
fields_of L = Arguments ∷ (Gives ∷ (Watched ∷ []))
fields_of M = Arguments ∷ (Gives ∷ (Locals ∷ (StackLimit ∷ [])))
fields_of I = Op ∷ (Operand ∷ [])
fields_of X = TryBegin ∷ (TryEnd ∷ (Kind ∷ (CatchBegin ∷ (CatchEnd ∷ []))))

-- how many columns some fields have together
abbrev pub widths : List Field → ℕ
widths [] = 0
widths (f ∷ fs) = width_of f + widths fs
