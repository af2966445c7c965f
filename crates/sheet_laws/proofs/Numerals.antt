-- The fields of a line and the numbers in them: written and read again. Assumes nothing.
use Rattle.std.proofs.Common.{◌≡◌, ℕ, ◌+◌, ◌^◌, ◌<◌, ◌≤◌, true, ◌&&◌, List, [], ◌∷◌, ◌++◌, length, take, drop, ℤ, pos, negsuc, Some, None, Ok, Err, Option, Result, sym, refl, ap, ◌∙◌, arith}
use lib.Signed.{mag, le_z}
use Rattle.std.specs.Fmt.{signed_decimal}
use Rattle.std.proofs.lemmas.Fmt.{length-decimal-le, length_signed_le}
use Rattle.std.proofs.lemmas.List.{length-append, length-drop, length-take-le, take-append-drop, take_at, drop_at, nil_from_length}
use Rattle.std.proofs.lemmas.Bool.{and_parts, and_from, leb-true, cond-true}
use Rattle.sheet.specs.Bounds.{all_allowed}
use Rattle.sheet.specs.Columns.{column, held, allowed, judged, field_read}
use Rattle.sheet.specs.Fields.{width_of, widths}
use Rattle.sheet.specs.Lines.{numbers_in}
use Rattle.sheet.specs.Maps.{and_then, raised}
use Rattle.sheet.specs.Text.{columns}
use Rattle.sheet.specs.declared.fields.Field.{Field}
use Rattle.sheet.specs.declared.fields.Field.TheVariants.{Arguments, Gives, Watched, Locals, StackLimit, Op, Operand, TryBegin, TryEnd, Kind, CatchBegin, CatchEnd}
use Rattle.sheet_laws.proofs.Held.{held_some, held_is}
use Rattle.sheet_laws.proofs.Places.{length_column}

-- where a chain came to an end, its first step did
pub and_then_ok : {X Y E : Type 0} (r : Result X E) (f : X → Result Y E) (y : Y) → and_then r f ≡ Ok y → (x : X) × (r ≡ Ok x) × (f x ≡ Ok y)
and_then_ok (Ok x) f y e = (x, refl, e)
and_then_ok (Err g) f y e = cc

pub raised_ok : {X E F : Type 0} (f : E → F) (r : Result X E) (x : X) → raised f r ≡ Ok x → r ≡ Ok x
raised_ok f (Ok x) y e = cc
raised_ok f (Err g) y e = cc

-- a number that a field may hold is short and has its place in the columns
pub record Short (f : Field) (z : ℤ) : Type 0 where
  pub text : length (signed_decimal z) ≤ width_of f
  pub size : mag z < 2 ^ 63

small : (lo hi : ℕ) (z : ℤ) → hi ≤ 2048 → (le_z (pos lo) z && le_z z (pos hi)) ≡ true → (length (signed_decimal z) ≤ 6) × (mag z < 2 ^ 63)
small lo hi (pos n) h e = let d = length-decimal-le 6 n (omega arith) in grind arith
small lo hi (negsuc n) h e = cc

wide : (z : ℤ) → (le_z (negsuc 2147483647) z && le_z z (pos 2147483647)) ≡ true → (length (signed_decimal z) ≤ 12) × (mag z < 2 ^ 63)
wide (pos n) e = let l = length_signed_le 11 (pos n) in grind arith
wide (negsuc n) e = let p = and_parts (le_z (negsuc 2147483647) (negsuc n)) true e in let k = leb-true n 2147483647 p.0 in (length_signed_le 11 (negsuc n) (omega arith) (omega arith), omega arith)

both : (f : Field) (z : ℤ) → (length (signed_decimal z) ≤ width_of f) × (mag z < 2 ^ 63) → Short f z
both f z (t, s) = record { text = t; size = s }

pub short : (f : Field) (z : ℤ) → allowed f z ≡ true → Short f z
short Arguments z e = both Arguments z (small 0 6 z (omega arith) e)
short Gives z e = both Gives z (small 0 1 z (omega arith) e)
short Watched z e = both Watched z (small 0 1 z (omega arith) e)
short Locals z e = both Locals z (small 0 250 z (omega arith) e)
short StackLimit z e = both StackLimit z (small 0 64 z (omega arith) e)
short Op z e = both Op z (small 1 18 z (omega arith) e)
short Operand z e = both Operand z (wide z e)
short TryBegin z e = both TryBegin z (small 0 2048 z (omega arith) e)
short TryEnd z e = both TryEnd z (small 0 2048 z (omega arith) e)
short Kind z e = both Kind z (small 1 2 z (omega arith) e)
short CatchBegin z e = both CatchBegin z (small 0 2048 z (omega arith) e)
short CatchEnd z e = both CatchEnd z (small 0 2048 z (omega arith) e)

-- the text of a number in a field's columns reads as that number
field_reads : (f : Field) (z : ℤ) → allowed f z ≡ true → field_read f (column (width_of f) (signed_decimal z)) ≡ Ok z
field_reads f z a =
    let s = short f z a in
    let l = length_column (width_of f) (signed_decimal z) s.text in
    let h = held_some (column (width_of f) (signed_decimal z)) z s.size (ap (λ w. column w (signed_decimal z)) (sym l)) in
    ap (judged f) h ∙ cond-true (allowed f z) (Ok z) _ a

judged_ok : (f : Field) (o : Option ℤ) (z : ℤ) → judged f o ≡ Ok z → (o ≡ Some z) × (allowed f z ≡ true)
judged_ok f None z e = cc
judged_ok f (Some y) z e = grind arith

-- a field that reads as a number is the text of that number
field_is : (f : Field) (t : List ℕ) (z : ℤ) → length t ≡ width_of f → field_read f t ≡ Ok z → (t ≡ column (width_of f) (signed_decimal z)) × (allowed f z ≡ true)
field_is f t z l e =
    let p = judged_ok f (held t) z e in
    (held_is t z p.0 ∙ ap (λ w. column w (signed_decimal z)) l, p.1)

-- the same of several fields
pub numbers_read : (fs : List Field) (zs : List ℤ) → all_allowed fs zs ≡ true → numbers_in fs (columns fs zs) ≡ Ok zs
numbers_read [] [] a = refl
numbers_read [] (z ∷ zs) a = cc
numbers_read (f ∷ fs) [] a = cc
numbers_read (f ∷ fs) (z ∷ zs) a =
    let p = and_parts (allowed f z) (all_allowed fs zs) a in
    let col = column (width_of f) (signed_decimal z) in
    let more = columns fs zs in
    let l = length_column (width_of f) (signed_decimal z) (short f z p.0).text in
    let x = ap (field_read f) (take_at col more (width_of f) l) ∙ field_reads f z p.0 in
    let y = ap (numbers_in fs) (drop_at col more (width_of f) l) ∙ numbers_read fs zs p.1 in
    ap (λ r. and_then r (λ u. and_then (numbers_in fs (drop (width_of f) (col ++ more))) (λ us. Ok (u ∷ us)))) x ∙ ap (λ r. and_then r (λ us. Ok (z ∷ us))) y

pub numbers_are : (fs : List Field) (t : List ℕ) (zs : List ℤ) → length t ≡ widths fs → numbers_in fs t ≡ Ok zs → (t ≡ columns fs zs) × (all_allowed fs zs ≡ true)
numbers_are [] t [] l e = (nil_from_length t l, refl)
numbers_are [] t (z ∷ zs) l e = cc
numbers_are (f ∷ fs) t zs l e =
    let w = width_of f in
    let one = and_then_ok (field_read f (take w t)) _ zs e in
    let z = one.0 in
    let two = and_then_ok (numbers_in fs (drop w t)) (λ us. Ok (z ∷ us)) zs one.2 in
    let us = two.0 in
    let same : (z ∷ us) ≡ zs = cc in
    let front = field_is f (take w t) z (length-take-le w t (omega arith)) one.1 in
    let back = numbers_are fs (drop w t) us (omega (arith, length-drop w t)) two.1 in
    let text = sym (take-append-drop w t) ∙ ap (λ x. x ++ drop w t) front.0 ∙ ap (λ x. column w (signed_decimal z) ++ x) back.0 in
    (text ∙ ap (columns (f ∷ fs)) same, ap (all_allowed (f ∷ fs)) (sym same) ∙ and_from (allowed f z) (all_allowed fs us) front.1 back.1)

-- numbers in their columns are as long as the columns
pub length_columns : (fs : List Field) (zs : List ℤ) → all_allowed fs zs ≡ true → length (columns fs zs) ≡ widths fs
length_columns [] [] a = refl
length_columns [] (z ∷ zs) a = cc
length_columns (f ∷ fs) [] a = cc
length_columns (f ∷ fs) (z ∷ zs) a =
    let p = and_parts (allowed f z) (all_allowed fs zs) a in
    let l = length_column (width_of f) (signed_decimal z) (short f z p.0).text in
    length-append (column (width_of f) (signed_decimal z)) (columns fs zs) ∙ ap (λ k. k + length (columns fs zs)) l ∙ ap (λ k. width_of f + k) (length_columns fs zs p.1)
