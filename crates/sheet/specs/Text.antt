-- The one text of a sheet: its lines in order, each a letter, its numbers in their columns and a line feed. Assumes nothing.
use Rattle.std.specs.Prelude.{ℕ, ◌+◌, List, [], ◌∷◌, ◌++◌, length, take, drop, ℤ, pos, decimal}
use Rattle.std.specs.List.{flat_map}
use Rattle.std.specs.Fmt.{signed_decimal}
use Rattle.sheet.specs.Columns.{column}
use Rattle.sheet.specs.Fields.{width_of, letter_byte, fields_of}
use Rattle.sheet.specs.Numbers.{flag, kind_number}
use Rattle.sheet.specs.Ops.{op_number}
use Rattle.sheet.specs.Reading.{TextSheet}
use Rattle.sheet.specs.View.{Method}
use Rattle.sheet.specs.declared.location.PlainLocation.{PlainLocation}
use Rattle.sheet.specs.declared.fields.Field.{Field}
use Rattle.sheet.specs.declared.fields.Letter.{Letter}
use Rattle.sheet.specs.declared.fields.Letter.TheVariants.{L, M, I, X}
use Rattle.sheet.specs.declared.records.Handler.{Handler}
use Rattle.sheet.specs.declared.records.ReadInstruction.{ReadInstruction}
use Rattle.sheet.specs.declared.records.Shape.{Shape}
use Rattle.sheet.specs.declared.records.Signature.{Signature}

-- numbers in the columns of their fields, one field behind the other
abbrev pub columns : List Field → List ℤ → List ℕ
columns [] zs = []
columns (f ∷ fs) [] = []
columns (f ∷ fs) (z ∷ zs) = column (width_of f) (signed_decimal z) ++ columns fs zs

-- a line with these numbers
abbrev pub line_text : Letter → List ℤ → List ℕ
line_text l zs = letter_byte l ∷ (columns (fields_of l) zs ++ 10 ∷ [])

-- the numbers of each record, in the order of its fields
abbrev pub signature_numbers : Signature → List ℤ
signature_numbers x = pos x.arguments ∷ (pos (flag x.gives) ∷ (pos (flag x.watched) ∷ []))

abbrev pub shape_numbers : Shape → List ℤ
shape_numbers x = pos x.arguments ∷ (pos (flag x.gives) ∷ (pos x.locals ∷ (pos x.stack_limit ∷ [])))

abbrev pub instruction_numbers : ReadInstruction → List ℤ
instruction_numbers x = pos (op_number x.op) ∷ (x.operand ∷ [])

abbrev pub handler_numbers : Handler PlainLocation → List ℤ
handler_numbers x = pos x.try_begin.number ∷ (pos x.try_end.number ∷ (pos (kind_number x.kind) ∷ (pos x.catch_begin.number ∷ (pos x.catch_end.number ∷ []))))

-- the line of each record
abbrev pub signature_text : Signature → List ℕ
signature_text x = line_text L (signature_numbers x)

abbrev pub shape_text : Shape → List ℕ
shape_text x = line_text M (shape_numbers x)

abbrev pub instruction_text : ReadInstruction → List ℕ
instruction_text x = line_text I (instruction_numbers x)

abbrev pub handler_text : Handler PlainLocation → List ℕ
handler_text x = line_text X (handler_numbers x)

-- an own method: its line, those of its instructions, those of its handlers
abbrev pub method_text : Method ReadInstruction (Handler PlainLocation) → List ℕ
method_text m = shape_text m.shape ++ (flat_map instruction_text m.code ++ flat_map handler_text m.handlers)

-- a sheet: its library methods, then its own methods
abbrev pub sheet_text : TextSheet → List ℕ
sheet_text s = flat_map signature_text s.library ++ flat_map method_text s.methods

-- a number in a field of six columns
abbrev pub count : ℕ → List ℕ
count n = column 6 (decimal n)

-- what a buffer holds once a text was written into it from a place on
abbrev pub placed : ℕ → List ℕ → List ℕ → List ℕ
placed at t buffer = take at buffer ++ (t ++ drop (at + length t) buffer)
