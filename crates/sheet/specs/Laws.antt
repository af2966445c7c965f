-- The laws of the text layer: of the one text, of a field, of the numbers of ops and kinds. Assumes nothing.
use Rattle.std.specs.Prelude.{◌≡◌, ℕ, ◌^◌, ◌<◌, true, ◌⊎◌, List, length, ℤ, Some, None, Ok}
use Rattle.std.specs.Int.Signed.{mag}
use Rattle.std.specs.Fmt.{signed_decimal}
use Rattle.sheet.specs.Bounds.{in_range}
use Rattle.sheet.specs.Columns.{column, held}
use Rattle.sheet.specs.Numbers.{kind_number, kind_numbered}
use Rattle.sheet.specs.Ops.{op_number, op_numbered}
use Rattle.sheet.specs.declared.op.Op.{Op}
use Rattle.sheet.specs.declared.records.Kind.{Kind}
use Rattle.sheet.specs.Reading.{TextSheet, reading}
use Rattle.sheet.specs.Text.{sheet_text}

-- a text reads as a sheet exactly when it is that sheet's text, and the sheet is one that a text can say
pub record OneText (text : List ℕ) (s : TextSheet) : Type 0 where
  pub read : text ≡ sheet_text s → in_range s ≡ true → reading text ≡ Ok s
  pub said : reading text ≡ Ok s → (text ≡ sheet_text s) × (in_range s ≡ true)

-- it holds of every text and every sheet. So reading undoes writing, writing undoes reading, and no two texts read as one sheet
abbrev pub TextLaw : Type 0
TextLaw = (text : List ℕ) (s : TextSheet) → OneText text s

-- a field holds a number exactly when it is that number's text in its columns; no field is wider than twelve
pub record OneField (t : List ℕ) (z : ℤ) : Type 0 where
  pub held_text : t ≡ column (length t) (signed_decimal z) → mag z < 2 ^ 63 → held t ≡ Some z
  pub text_held : held t ≡ Some z → t ≡ column (length t) (signed_decimal z)

abbrev pub FieldLaw : Type 0
FieldLaw = (t : List ℕ) (z : ℤ) → OneField t z

-- an op and a kind are found by their number, and what is found by a number has that number
pub record NumberLaw : Type 0 where
  pub op_found : (op : Op) → op_numbered (op_number op) ≡ Some op
  pub op_numbered_lem : (n : ℕ) (op : Op) → op_numbered n ≡ Some op → op_number op ≡ n
  pub op_none : (n : ℕ) → op_numbered n ≡ None → (n ≡ 0) ⊎ (18 < n)
  pub kind_found : (k : Kind) → kind_numbered (kind_number k) ≡ Some k
  pub kind_numbered_lem : (n : ℕ) (k : Kind) → kind_numbered n ≡ Some k → kind_number k ≡ n
