-- What is taken out of a value that may not be there. Assumes nothing.
use Rattle.std.proofs.Common.{◌≡◌, ℕ, ◌<◌, List, [], ◌∷◌, length, get_or, take, drop, ℤ, pos, negsuc, Some, None, Ok, Result, Option, true, sym, refl, ap, ◌∙◌, ⊎_elim, arith}
use Rattle.std.specs.Prelude.{unsigned_abs, int_le}
use Rattle.std.specs.List.{slice_get}
use Rattle.std.specs.Option.{option_map, ok_or}
use Rattle.std.proofs.lemmas.Bool.{and_parts}
use Rattle.sheet.specs.Columns.{field_read, allowed}
use Rattle.sheet.specs.Bounds.{all_allowed}
use Rattle.sheet.specs.Numbers.{unknown}
use Rattle.sheet.specs.Ops.{op_numbered}
use Rattle.sheet.specs.declared.fields.Field.TheVariants.{Op as OpField, Operand}
use Rattle.sheet.specs.declared.op.Op.{Op}
use Rattle.sheet.specs.declared.unknown.UnknownNumber.{UnknownNumber}
use Rattle.sheet_laws.proofs.Numbering.{number_law}
use Rattle.sheet_laws.proofs.Numerals.{numbers_are}
use Rattle.std.proofs.lemmas.Option.{slice_get-get_or}

-- a part of an element that there is
pub part_is : {X Y : Type 0} (f : X → Y) (xs : List X) (i : ℕ) (d : X) (y : Y) → i < length xs → option_map f (slice_get xs i) ≡ Some y → y ≡ f (get_or xs i d)
part_is f xs i d y h e =
    let n = ap (option_map f) (slice_get-get_or xs i d h) in
    let k = sym n ∙ e in
    cc

-- the field of an op holds a number from 1 to 18
pub op_bounds : (t : List ℕ) (n z : ℤ) → length t ≡ 18 → field_read OpField (take 6 t) ≡ Ok n → field_read Operand (take 12 (drop 6 t)) ≡ Ok z → (int_le (pos 1) n ≡ true) × (int_le n (pos 18) ≡ true)
op_bounds t n z l op operand =
    let range = (numbers_are (OpField ∷ (Operand ∷ [])) t (n ∷ (z ∷ [])) l (rw (op, operand) refl)).1 in
    and_parts (int_le (pos 1) n) (int_le n (pos 18)) (and_parts (allowed OpField n) (all_allowed (Operand ∷ []) (z ∷ [])) range).0

-- and each of these has its op
pub op_there : (n : ℤ) (r : Result Op UnknownNumber) → int_le (pos 1) n ≡ true → int_le n (pos 18) ≡ true → r ≡ ok_or (op_numbered (unsigned_abs n)) (unknown (unsigned_abs n)) → (op : Op) × (op_numbered (unsigned_abs n) ≡ Some op) × (r ≡ Ok op)
op_there (negsuc k) r l h e = cc
op_there (pos k) r l h e = of (op_numbered k) refl
  where
    of : (o : Option Op) → op_numbered k ≡ o → (op : Op) × (op_numbered k ≡ Some op) × (r ≡ Ok op)
    of None is = ⊎_elim (λ z. absurd (grind (arith, z, l))) (λ z. absurd (grind (arith, z, h))) (number_law.op_none k is)
    of (Some op) is = (op, is, e ∙ ap (λ o. ok_or o (unknown k)) is)
