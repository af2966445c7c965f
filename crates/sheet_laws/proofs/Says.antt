-- A line and what it says: written and read again. Assumes nothing.
use Rattle.std.proofs.Common.{◌≡◌, ℕ, zero, suc, ◌+◌, ◌-◌, Bool, true, false, ◌&&◌, eqb, List, [], ◌∷◌, ◌++◌, length, get_or, take, ℤ, pos, negsuc, nat_abs, Some, None, Ok, Option, unwrap_or, sym, refl, ap, ◌∙◌, arith, rules}
use lib.Signed.{le_z}
use Rattle.std.proofs.lemmas.List.{get_or_push, length_push, take_at, take_all, take_more}
use Rattle.std.proofs.lemmas.Option.{slice_get-get_or}
use Rattle.std.proofs.lemmas.Bool.{and_parts, leb-true}
use Rattle.sheet.specs.Bounds.{all_allowed}
use Rattle.sheet.specs.Columns.{allowed}
use Rattle.sheet.specs.Fields.{fields_of, widths, letter_byte, letter_of}
use Rattle.sheet.specs.Lines.{numbers_in, line_of, fields_read, last_byte, front, behind_letter, parted, line_read}
use Rattle.sheet.specs.Maps.{and_then, raised}
use Rattle.sheet.specs.Numbers.{flag, kind_number, kind_numbered}
use Rattle.sheet.specs.Ops.{ops, op_number, op_numbered}
use Rattle.sheet.specs.Text.{columns, line_text, signature_numbers, shape_numbers, instruction_numbers, handler_numbers}
use Rattle.sheet.specs.declared.op.Op.{Op}
use Rattle.sheet.specs.declared.op.Op.TheVariants.{LoadConstant}
use Rattle.sheet.specs.declared.fields.Field.{Field}
use Rattle.sheet.specs.declared.fields.Field.TheVariants.{Arguments, Gives, Watched, Locals, StackLimit, Op as AsOp, Operand, TryBegin, TryEnd, Kind as AsKind, CatchBegin, CatchEnd}
use Rattle.sheet.specs.declared.fields.Letter.{Letter}
use Rattle.sheet.specs.declared.fields.Letter.TheVariants.{L, M, I, X}
use Rattle.sheet.specs.declared.faults.LineFault.TheVariants.{Form, Field as OfField}
use Rattle.sheet.specs.declared.records.Kind.{Kind}
use Rattle.sheet.specs.declared.records.Kind.TheVariants.{Every}
use Rattle.sheet.specs.declared.records.Line.{Line}
use Rattle.sheet.specs.declared.records.Line.TheVariants.{Library, Method, Instruction, Handler}
use Rattle.sheet_laws.proofs.Numbering.{op_found, op_numbered_lem, kind_found}
use Rattle.sheet_laws.proofs.Numerals.{and_then_ok, raised_ok, numbers_read, numbers_are, length_columns}

-- the letter of a line and its numbers
abbrev pub letter : Line → Letter
letter (Library x) = L
letter (Method x) = M
letter (Instruction x) = I
letter (Handler x) = X

abbrev pub numbers : Line → List ℤ
numbers (Library x) = signature_numbers x
numbers (Method x) = shape_numbers x
numbers (Instruction x) = instruction_numbers x
numbers (Handler x) = handler_numbers x

-- its text, and whether its fields may hold its numbers
abbrev pub text_of : Line → List ℕ
text_of x = line_text (letter x) (numbers x)

abbrev pub permitted : Line → Bool
permitted x = all_allowed (fields_of (letter x)) (numbers x)

-- ops, kinds and flags back from their numbers
op_back : (op : Op) → unwrap_or (op_numbered (op_number op)) LoadConstant ≡ op
op_back op = ap (λ o. unwrap_or o LoadConstant) (op_found op)

kind_back : (k : Kind) → unwrap_or (kind_numbered (kind_number k)) Every ≡ k
kind_back k = ap (λ o. unwrap_or o Every) (kind_found k)

flag_back : (b : Bool) → eqb (flag b) 1 ≡ b
flag_back true = refl
flag_back false = refl

-- what the numbers of a line say is the line
pub numbers_say : (x : Line) → line_of (letter x) (numbers x) ≡ x
numbers_say (Library x) = rw (flag_back x.gives, flag_back x.watched) refl
numbers_say (Method x) = rw (flag_back x.gives) refl
numbers_say (Instruction x) = rw (op_back x.op) refl
numbers_say (Handler x) = rw (kind_back x.kind) refl

-- a number between two naturals, and one that is a flag, a kind or an op
natural_back : (lo hi : ℕ) (z : ℤ) → (le_z (pos lo) z && le_z z (pos hi)) ≡ true → pos (nat_abs z) ≡ z
natural_back lo hi (pos n) e = refl
natural_back lo hi (negsuc n) e = cc

flag_number : (z : ℤ) → (le_z (pos 0) z && le_z z (pos 1)) ≡ true → pos (flag (eqb (nat_abs z) 1)) ≡ z
flag_number (pos zero) e = refl
flag_number (pos (suc zero)) e = refl
flag_number (pos (suc (suc n))) e = grind arith
flag_number (negsuc n) e = cc

kind_number_lem : (z : ℤ) → (le_z (pos 1) z && le_z z (pos 2)) ≡ true → pos (kind_number (unwrap_or (kind_numbered (nat_abs z)) Every)) ≡ z
kind_number_lem (pos zero) e = cc
kind_number_lem (pos (suc zero)) e = refl
kind_number_lem (pos (suc (suc zero))) e = refl
kind_number_lem (pos (suc (suc (suc n)))) e = grind arith
kind_number_lem (negsuc n) e = cc

op_number_lem : (z : ℤ) → (le_z (pos 1) z && le_z z (pos 18)) ≡ true → pos (op_number (unwrap_or (op_numbered (nat_abs z)) LoadConstant)) ≡ z
op_number_lem (pos zero) e = cc
op_number_lem (pos (suc n)) e =
    let p = and_parts (le_z (pos 1) (pos (suc n))) (le_z (pos (suc n)) (pos 18)) e in
    let k = leb-true (suc n) 18 p.1 in
    let s = slice_get-get_or ops n LoadConstant (omega arith) in
    ap (λ o. pos (op_number (unwrap_or o LoadConstant))) s ∙ ap pos (op_numbered_lem (suc n) (get_or ops n LoadConstant) s)
op_number_lem (negsuc n) e = cc

-- a number for each field
uncons : (f : Field) (fs : List Field) (zs : List ℤ) → all_allowed (f ∷ fs) zs ≡ true → (z : ℤ) × (us : List ℤ) × (zs ≡ z ∷ us) × (allowed f z ≡ true) × (all_allowed fs us ≡ true)
uncons f fs [] a = cc
uncons f fs (z ∷ us) a = let p = and_parts (allowed f z) (all_allowed fs us) a in (z, us, refl, p.0, p.1)

unnil : (zs : List ℤ) → all_allowed [] zs ≡ true → zs ≡ []
unnil [] a = refl
unnil (z ∷ zs) a = cc

pub letter_back : (l : Letter) (zs : List ℤ) → letter (line_of l zs) ≡ l
letter_back L zs = refl
letter_back M zs = refl
letter_back I zs = refl
letter_back X zs = refl

-- the numbers of what some numbers say are those numbers
pub numbers_back : (l : Letter) (zs : List ℤ) → all_allowed (fields_of l) zs ≡ true → numbers (line_of l zs) ≡ zs
numbers_back L zs a =
    let p = uncons Arguments (Gives ∷ (Watched ∷ [])) zs a in
    let q = uncons Gives (Watched ∷ []) p.1 p.4 in
    let r = uncons Watched [] q.1 q.4 in
    let n = unnil r.1 r.4 in
    let e : zs ≡ p.0 ∷ (q.0 ∷ (r.0 ∷ [])) = cc in
    let x = natural_back 0 6 p.0 p.3 in
    let y = flag_number q.0 q.3 in
    let z = flag_number r.0 r.3 in
    ap (λ us. numbers (line_of L us)) e ∙ (cc)
numbers_back M zs a =
    let p = uncons Arguments (Gives ∷ (Locals ∷ (StackLimit ∷ []))) zs a in
    let q = uncons Gives (Locals ∷ (StackLimit ∷ [])) p.1 p.4 in
    let r = uncons Locals (StackLimit ∷ []) q.1 q.4 in
    let s = uncons StackLimit [] r.1 r.4 in
    let n = unnil s.1 s.4 in
    let e : zs ≡ p.0 ∷ (q.0 ∷ (r.0 ∷ (s.0 ∷ []))) = cc in
    let x = natural_back 0 6 p.0 p.3 in
    let y = flag_number q.0 q.3 in
    let z = natural_back 0 250 r.0 r.3 in
    let w = natural_back 0 64 s.0 s.3 in
    ap (λ us. numbers (line_of M us)) e ∙ (cc)
numbers_back I zs a =
    let p = uncons AsOp (Operand ∷ []) zs a in
    let q = uncons Operand [] p.1 p.4 in
    let n = unnil q.1 q.4 in
    let e : zs ≡ p.0 ∷ (q.0 ∷ []) = cc in
    let x = op_number_lem p.0 p.3 in
    ap (λ us. numbers (line_of I us)) e ∙ (cc)
numbers_back X zs a =
    let p = uncons TryBegin (TryEnd ∷ (AsKind ∷ (CatchBegin ∷ (CatchEnd ∷ [])))) zs a in
    let q = uncons TryEnd (AsKind ∷ (CatchBegin ∷ (CatchEnd ∷ []))) p.1 p.4 in
    let r = uncons AsKind (CatchBegin ∷ (CatchEnd ∷ [])) q.1 q.4 in
    let s = uncons CatchBegin (CatchEnd ∷ []) r.1 r.4 in
    let t = uncons CatchEnd [] s.1 s.4 in
    let n = unnil t.1 t.4 in
    let e : zs ≡ p.0 ∷ (q.0 ∷ (r.0 ∷ (s.0 ∷ (t.0 ∷ [])))) = cc in
    let x = natural_back 0 2048 p.0 p.3 in
    let y = natural_back 0 2048 q.0 q.3 in
    let z = kind_number_lem r.0 r.3 in
    let v = natural_back 0 2048 s.0 s.3 in
    let w = natural_back 0 2048 t.0 t.3 in
    ap (λ us. numbers (line_of X us)) e ∙ (cc)

-- a letter and its byte
byte_letter : (l : Letter) → letter_of (letter_byte l) ≡ Some l
byte_letter L = refl
byte_letter M = refl
byte_letter I = refl
byte_letter X = refl

letter_byte_lem : (b : ℕ) (l : Letter) → letter_of b ≡ Some l → b ≡ letter_byte l
letter_byte_lem b l e = grind arith

-- a text with a line feed behind it
feed_last : (t : List ℕ) → last_byte (t ++ 10 ∷ []) ≡ 10
feed_last t = search (rules, length_push, get_or_push)

feed_front : (t : List ℕ) → front (t ++ 10 ∷ []) ≡ t
feed_front t =
    let l = length_push t 10 in
    let k : length (t ++ 10 ∷ []) - 1 ≡ length t = omega arith in
    ap (λ n. take n (t ++ 10 ∷ [])) k ∙ take_at t (10 ∷ []) (length t) refl

front_feed : (t : List ℕ) → last_byte t ≡ 10 → t ≡ front t ++ 10 ∷ []
front_feed [] e = absurd (omega arith)
front_feed (b ∷ t) e = let m = take_more (b ∷ t) (length t) 0 (omega arith) in let a = take_all (length t + 1) (b ∷ t) (omega arith) in grind arith

-- a line taken apart
parted_text : (l : Letter) (t : List ℕ) → length t ≡ widths (fields_of l) → parted (letter_byte l ∷ (t ++ 10 ∷ [])) ≡ Ok (l, t)
parted_text l t h = let f = feed_front t in let g = feed_last t in let b = byte_letter l in grind arith

behind_ok : (o : Option Letter) (u : List ℕ) (p : Letter × List ℕ) → behind_letter o u ≡ Ok p → (o ≡ Some p.0) × (u ≡ p.1 ++ 10 ∷ []) × (length p.1 ≡ widths (fields_of p.0))
behind_ok None u p e = cc
behind_ok (Some l) u p e = grind (arith, front_feed)

parted_ok : (t : List ℕ) (p : Letter × List ℕ) → parted t ≡ Ok p → (t ≡ letter_byte p.0 ∷ (p.1 ++ 10 ∷ [])) × (length p.1 ≡ widths (fields_of p.0))
parted_ok [] p e = cc
parted_ok (b ∷ u) p e =
    let k = behind_ok (letter_of b) u p e in
    let x = letter_byte_lem b p.0 k.0 in
    (ap (λ y. y ∷ u) x ∙ ap (λ y. letter_byte p.0 ∷ y) k.1, k.2)

-- the text of a line reads as that line
pub line_reads : (x : Line) → permitted x ≡ true → line_read (text_of x) ≡ Ok x
line_reads x a =
    let l = letter x in
    let zs = numbers x in
    let t = columns (fields_of l) zs in
    let p = parted_text l t (length_columns (fields_of l) zs a) in
    let n = numbers_read (fields_of l) zs a in
    ap (λ r. and_then (raised Form r) (λ q. raised OfField (fields_read q.0 q.1))) p ∙ ap (λ r. raised OfField (and_then r (λ us. Ok (line_of l us)))) n ∙ ap Ok (numbers_say x)

-- a text that reads as a line is the text of that line
pub line_is : (t : List ℕ) (x : Line) → line_read t ≡ Ok x → (t ≡ text_of x) × (permitted x ≡ true)
line_is t x e =
    let one = and_then_ok (raised Form (parted t)) _ x e in
    let l = one.0.0 in
    let f = one.0.1 in
    let p = parted_ok t one.0 (raised_ok Form (parted t) one.0 one.1) in
    let two = and_then_ok (numbers_in (fields_of l) f) (λ us. Ok (line_of l us)) x (raised_ok OfField (fields_read l f) x one.2) in
    let zs = two.0 in
    let same : line_of l zs ≡ x = cc in
    let n = numbers_are (fields_of l) f zs p.1 two.1 in
    let b = numbers_back l zs n.1 in
    let k = letter_back l zs in
    let text : line_text l zs ≡ text_of (line_of l zs) = ap (λ y. line_text y zs) (sym k) ∙ ap (line_text (letter (line_of l zs))) (sym b) in
    let fit : permitted (line_of l zs) ≡ true = ap (λ y. all_allowed (fields_of y) (numbers (line_of l zs))) k ∙ ap (all_allowed (fields_of l)) b ∙ n.1 in
    (p.0 ∙ ap (λ y. letter_byte l ∷ (y ++ 10 ∷ [])) n.0 ∙ text ∙ ap text_of same, ap permitted (sym same) ∙ fit)
