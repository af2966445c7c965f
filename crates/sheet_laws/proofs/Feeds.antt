-- The text of a line has one line feed, at its end, so it is the first line of what it begins. Assumes nothing.
use Rattle.std.proofs.Common.{◌≡◌, ℕ, zero, suc, ◌+◌, ◌-◌, ◌%◌, ◌^◌, ◌<◌, true, List, [], ◌∷◌, ◌++◌, length, drop, replicate, ℤ, pos, negsuc, decimal, refl, ap, ◌∙◌, arith}
use lib.Signed.{mag}
use Rattle.std.specs.List.{AllByRecursion}
use Rattle.std.specs.Fmt.{signed_decimal}
use Rattle.std.proofs.lemmas.Fmt.{decimal_by_steps}
use Rattle.std.proofs.lemmas.List.{append_assoc, length-append, length_push, take_at, drop_at}
use Rattle.std.proofs.lemmas.Bool.{and_parts}
use Rattle.sheet.specs.Bounds.{all_allowed}
use Rattle.sheet.specs.Columns.{column, allowed}
use Rattle.sheet.specs.Fields.{width_of, fields_of, letter_byte}
use Rattle.sheet.specs.Reading.{lines, line_length}
use Rattle.sheet.specs.Text.{columns}
use Rattle.sheet.specs.declared.fields.Field.{Field}
use Rattle.sheet.specs.declared.fields.Letter.{Letter}
use Rattle.sheet.specs.declared.fields.Letter.TheVariants.{L, M, I, X}
use Rattle.sheet.specs.declared.records.Line.{Line}
use Rattle.sheet_laws.proofs.Numerals.{short}
use Rattle.sheet_laws.proofs.Says.{letter, numbers, text_of, permitted}
use Rattle.sheet_laws.proofs.Splits.{lines_first}

-- no byte is a line feed
abbrev Unbroken : List ℕ → Type 0
Unbroken = AllByRecursion (λ b. b ≡ 10 → ⊥)

unbroken_both : (s t : List ℕ) → Unbroken s → Unbroken t → Unbroken (s ++ t)
unbroken_both [] t p q = q
unbroken_both (b ∷ s) t (h, p) q = (h, unbroken_both s t p q)

unbroken_blanks : (k : ℕ) → Unbroken (replicate k 32)
unbroken_blanks zero = tt
unbroken_blanks (suc k) = ((λ e. omega arith), unbroken_blanks k)

unbroken_decimal : (n : ℕ) → n < 2 ^ 64 → Unbroken (decimal n)
unbroken_decimal = decimal_by_steps (λ n ds. Unbroken ds) (λ n h. ((λ e. omega arith), tt)) (λ n ds h p. unbroken_both ds ((48 + n % 10) ∷ []) p ((λ e. omega arith), tt))

unbroken_signed : (z : ℤ) → mag z < 2 ^ 63 → Unbroken (signed_decimal z)
unbroken_signed (pos n) h = unbroken_decimal n (omega arith)
unbroken_signed (negsuc n) h = ((λ e. omega arith), unbroken_decimal (suc n) (omega arith))

unbroken_columns : (fs : List Field) (zs : List ℤ) → all_allowed fs zs ≡ true → Unbroken (columns fs zs)
unbroken_columns [] zs a = tt
unbroken_columns (f ∷ fs) [] a = tt
unbroken_columns (f ∷ fs) (z ∷ zs) a =
    let p = and_parts (allowed f z) (all_allowed fs zs) a in
    unbroken_both (column (width_of f) (signed_decimal z)) (columns fs zs)
    (unbroken_both (replicate (width_of f - length (signed_decimal z)) 32) (signed_decimal z) (unbroken_blanks (width_of f - length (signed_decimal z))) (unbroken_signed z (short f z p.0).size))
    (unbroken_columns fs zs p.1)

letter_unbroken : (l : Letter) → letter_byte l ≡ 10 → ⊥
letter_unbroken L e = omega arith
letter_unbroken M e = omega arith
letter_unbroken I e = omega arith
letter_unbroken X e = omega arith

first_length : (t rest : List ℕ) → Unbroken t → line_length (t ++ 10 ∷ rest) ≡ length t + 1
first_length [] rest p = refl
first_length (b ∷ t) rest (h, p) = let r = first_length t rest p in grind arith

-- the line of a record ahead of anything
pub lines_line : (x : Line) (rest : List ℕ) → permitted x ≡ true → lines (text_of x ++ rest) ≡ text_of x ∷ lines rest
lines_line x rest a =
    let b = letter_byte (letter x) in
    let t = columns (fields_of (letter x)) (numbers x) in
    let whole : text_of x ++ rest ≡ (b ∷ t) ++ 10 ∷ rest = ap (λ y. b ∷ y) (append_assoc t (10 ∷ []) rest) in
    let n = ap line_length whole ∙ first_length (b ∷ t) rest (letter_unbroken (letter x), unbroken_columns (fields_of (letter x)) (numbers x) a) in
    let p = length_push t 10 in
    let l : length (text_of x) ≡ line_length (text_of x ++ rest) = omega arith in
    let some : 0 < length (text_of x ++ rest) = omega (arith, length-append (text_of x) rest) in
    lines_first (text_of x ++ rest) some ∙ ap (λ y. y ∷ lines (drop (line_length (text_of x ++ rest)) (text_of x ++ rest))) (take_at (text_of x) rest _ l) ∙ ap (λ y. text_of x ∷ lines y) (drop_at (text_of x) rest _ l)
