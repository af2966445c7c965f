-- A text taken line by line. Assumes nothing.
use Rattle.std.proofs.Common.{◌≡◌, ℕ, suc, ◌+◌, ◌<◌, ◌≤◌, List, [], ◌∷◌, length, get_or, take, drop, refl, ap, ◌∙◌, arith}
use Rattle.std.proofs.lemmas.List.{at_drop_more}
use Rattle.std.proofs.lemmas.Bool.{ne_eqb, cond-false}
use Rattle.sheet.specs.Reading.{ahead, lines, line_length}

-- a byte that is no line feed is ahead of the others of its line
pub other_length : (t : List ℕ) (i : ℕ) → i < length t → (get_or t i 0 ≡ 10 → ⊥) → line_length (drop i t) ≡ suc (line_length (drop (i + 1) t))
other_length t i h e = at_drop_more line_length t i 0 h ∙ cond-false _ 1 (suc (line_length (drop (i + 1) t))) (ne_eqb (get_or t i 0) 10 e)

-- the first line is within the text, and has a byte where the text has one
pub line_within : (t : List ℕ) → line_length t ≤ length t
line_within [] = omega arith
line_within (b ∷ t) = let r = line_within t in grind arith

pub line_some : (t : List ℕ) → 0 < length t → 0 < line_length t
line_some [] h = absurd (omega arith)
line_some (b ∷ t) h = grind arith

-- a byte ahead of the first line
longer : (b : ℕ) (t : List ℕ) → (0 < length t → lines t ≡ take (line_length t) t ∷ lines (drop (line_length t) t)) → ahead b (lines t) ≡ (b ∷ take (line_length t) t) ∷ lines (drop (line_length t) t)
unfolding lines
longer b [] more = refl
longer b (x ∷ t) more = ap (ahead b) (more (omega arith))

-- the first line, and the lines of what is left
pub lines_first : (t : List ℕ) → 0 < length t → lines t ≡ take (line_length t) t ∷ lines (drop (line_length t) t)
unfolding lines
lines_first [] h = absurd (omega arith)
lines_first (b ∷ t) h = let l = longer b t (lines_first t) in grind arith
