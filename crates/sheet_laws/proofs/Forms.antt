-- A line taken apart: letter, fields, line feed. Assumes nothing.
use Rattle.std.proofs.Common.{◌≡◌, ℕ, ◌-◌, ◌<◌, List, [], ◌∷◌, length, get_or, take, drop, Some, Ok, Err, sym, ap, ◌∙◌, arith}
use Rattle.std.proofs.lemmas.List.{take_rest}
use Rattle.sheet.specs.Fields.{letter_of, widths, fields_of}
use Rattle.sheet.specs.Lines.{parted, behind_letter, last_byte, front}
use Rattle.sheet.specs.declared.fields.Letter.{Letter}
use Rattle.sheet.specs.declared.faults.FormFault.TheVariants.{NoLineFeed, WrongLength}

-- what stands behind the first byte of a line
abbrev pub behind : List ℕ → List ℕ
behind line = take (length line - 1) (drop 1 line)

by_first : (line : List ℕ) (l : Letter) → 0 < length line → letter_of (get_or line 0 0) ≡ Some l → parted line ≡ behind_letter (Some l) (behind line)
by_first [] l h e = absurd (omega arith)
by_first (b ∷ t) l h e = ap (λ o. behind_letter o t) e ∙ ap (behind_letter (Some l)) (sym (take_rest (b ∷ t) 1))

-- a line with this letter
module _ (line : List ℕ) (l : Letter) (some : 0 < length line) (is : letter_of (get_or line 0 0) ≡ Some l) where
  pub parted_letter : parted line ≡ behind_letter (Some l) (behind line)
  parted_letter = by_first line l some is

  pub parted_unended : (last_byte (behind line) ≡ 10 → ⊥) → parted line ≡ Err NoLineFeed
  parted_unended no_feed = grind (arith, parted_letter)

  -- and a line feed at its end
  module _ (feed : last_byte (behind line) ≡ 10) where
    pub parted_long : (length (front (behind line)) ≡ widths (fields_of l) → ⊥) → parted line ≡ Err WrongLength
    parted_long other = grind (arith, parted_letter)

    pub parted_ok : length (front (behind line)) ≡ widths (fields_of l) → parted line ≡ Ok (l, front (behind line))
    parted_ok same = grind (arith, parted_letter)
