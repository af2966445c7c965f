-- What one line says, or why it is refused: its form first, then its fields from the left. Assumes nothing.
use Rattle.std.specs.Prelude.{ℕ, ◌-◌, List, [], ◌∷◌, length, take, drop, ℤ, pos, Some, None, Ok, Err, Option, Result, ◌==◌, slice_index, slice_index_or, unsigned_abs, if◌then◌else◌}
use Rattle.std.specs.Option.{unwrap_or}
use Rattle.sheet.specs.Columns.{field_read}
use Rattle.sheet.specs.Fields.{width_of, letter_of, fields_of, widths}
use Rattle.sheet.specs.Maps.{and_then, raised}
use Rattle.sheet.specs.Numbers.{kind_numbered}
use Rattle.sheet.specs.Ops.{op_numbered}
use Rattle.sheet.specs.declared.location.PlainLocation.{PlainLocation}
use Rattle.sheet.specs.declared.op.Op.TheVariants.{LoadConstant}
use Rattle.sheet.specs.declared.fields.Field.{Field}
use Rattle.sheet.specs.declared.fields.Letter.{Letter}
use Rattle.sheet.specs.declared.fields.Letter.TheVariants.{L, M, I, X}
use Rattle.sheet.specs.declared.records.Kind.TheVariants.{Every}
use Rattle.sheet.specs.declared.records.Line.{Line}
use Rattle.sheet.specs.declared.records.Line.TheVariants.{Library, Method, Instruction, Handler}
use Rattle.sheet.specs.declared.faults.FieldFault.{FieldFault}
use Rattle.sheet.specs.declared.faults.FormFault.{FormFault}
use Rattle.sheet.specs.declared.faults.FormFault.TheVariants.{UnknownLetter, NoLineFeed, WrongLength}
use Rattle.sheet.specs.declared.faults.LineFault.{LineFault}
use Rattle.sheet.specs.declared.faults.LineFault.TheVariants.{Form, Field as OfField}

-- the numbers in some fields, from the left
abbrev pub numbers_in : List Field → List ℕ → Result (List ℤ) FieldFault
numbers_in [] t = Ok []
numbers_in (f ∷ fs) t = and_then (field_read f (take (width_of f) t)) (λ z. and_then (numbers_in fs (drop (width_of f) t)) (λ zs. Ok (z ∷ zs)))

-- the i-th of some numbers, where none is negative
abbrev pub natural : List ℤ → ℕ → ℕ
natural zs i = unsigned_abs (slice_index_or zs i (pos 0))

abbrev pub location : List ℤ → ℕ → PlainLocation
location zs i = record { number = natural zs i }

-- what the numbers of a line say. Each number that the fields of an op and of a kind may hold has its op and its kind
abbrev pub line_of : Letter → List ℤ → Line
line_of L zs = Library (record { arguments = natural zs 0; gives = (natural zs 1 == 1); watched = (natural zs 2 == 1) })
line_of M zs = Method (record { arguments = natural zs 0; gives = (natural zs 1 == 1); locals = natural zs 2; stack_limit = natural zs 3 })
line_of I zs = Instruction (record { op = unwrap_or (op_numbered (natural zs 0)) LoadConstant; operand = slice_index_or zs 1 (pos 0) })
line_of X zs = Handler (record { try_begin = location zs 0; try_end = location zs 1; kind = unwrap_or (kind_numbered (natural zs 2)) Every; catch_begin = location zs 3; catch_end = location zs 4 })

-- what the fields of a line say
abbrev pub fields_read : Letter → List ℕ → Result Line FieldFault
fields_read l t = and_then (numbers_in (fields_of l) t) (λ zs. Ok (line_of l zs))

-- the last byte of a text
abbrev pub last_byte : List ℕ → ℕ
last_byte t = slice_index t (length t - 1)

-- what stands ahead of the last byte
abbrev pub front : List ℕ → List ℕ
front t = take (length t - 1) t

-- the fields of a line with this letter, by what stands behind the letter
abbrev pub behind_letter : Option Letter → List ℕ → Result (Letter × List ℕ) FormFault
behind_letter None t = Err UnknownLetter
behind_letter (Some l) t = if last_byte t == 10 then if length (front t) == widths (fields_of l) then Ok (l, front t) else Err WrongLength else Err NoLineFeed

-- the letter of a line and its fields
abbrev pub parted : List ℕ → Result (Letter × List ℕ) FormFault
parted [] = Err UnknownLetter
parted (b ∷ t) = behind_letter (letter_of b) t

-- what a line says
abbrev pub line_read : List ℕ → Result Line LineFault
line_read t = and_then (raised Form (parted t)) (λ p. raised OfField (fields_read p.0 p.1))
