-- A number in its columns: how it is written, and which number a field holds. Assumes nothing.
use Rattle.std.specs.Prelude.{ℕ, ◌-◌, Bool, true, false, ◌&&◌, List, [], ◌∷◌, ◌++◌, length, replicate, ℤ, pos, neg_ℤ, Some, None, Ok, Err, Option, Result, ◌==◌, int_le, if◌then◌else◌}
use Rattle.std.specs.Str.Parse.{digits_value}
use Rattle.std.specs.Fmt.{signed_decimal}
use Rattle.sheet.specs.Fields.{lowest, highest}
use Rattle.sheet.specs.declared.fields.Field.{Field}
use Rattle.sheet.specs.declared.faults.FieldFault.{FieldFault}
use Rattle.sheet.specs.declared.faults.FieldFault.TheVariants.{NoNumber, OutOfRange}

-- a text in w columns, with blanks in front
abbrev pub column : ℕ → List ℕ → List ℕ
column w t = replicate (w - length t) 32 ++ t

-- two texts are the same
abbrev pub same_text : List ℕ → List ℕ → Bool
same_text [] [] = true
same_text [] (b ∷ t) = false
same_text (a ∷ s) [] = false
same_text (a ∷ s) (b ∷ t) = a == b && same_text s t

-- what the characters of a field say, if they say a number: blanks in front are passed, and a minus turns what follows
unfoldable pub said : List ℕ → ℤ
said [] = pos 0
said (b ∷ t) = if b == 32 then said t else if b == 45 then neg_ℤ (pos (digits_value 10 t)) else pos (digits_value 10 (b ∷ t))

-- the number that a field holds: the one whose text in these columns the field is, if there is one
unfoldable pub held : List ℕ → Option ℤ
held t = if same_text (column (length t) (signed_decimal (said t))) t then Some (said t) else None

-- a number is one that a field may hold
abbrev pub allowed : Field → ℤ → Bool
allowed f z = int_le (lowest f) z && int_le z (highest f)

-- a number in place of a field, or why it is refused
abbrev pub judged : Field → Option ℤ → Result ℤ FieldFault
judged f None = Err (NoNumber f)
judged f (Some z) = if allowed f z then Ok z else Err (OutOfRange f)

-- what reading the characters of a field answers
abbrev pub field_read : Field → List ℕ → Result ℤ FieldFault
field_read f t = judged f (held t)
