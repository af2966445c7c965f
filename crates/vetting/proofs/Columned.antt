-- A number in columns, as a format writes it. Assumes nothing.
use Rattle.std.proofs.Common.{◌≡◌, List, ℕ, zero, suc, [], ◌∷◌, ◌++◌, ◌-◌, false, length, replicate, refl, ap, ◌∙◌, arith}
use Rattle.std.proofs.lemmas.List.{append-nil}
use lib.Utf8.{encode}
use Rattle.std.specs.Fmt.{padded_integral, number_padding, char_count, format_spec}
use Rattle.std.specs.List.{repeat}
use Rattle.sheet.specs.Columns.{column}

pub blanks : (b : List ℕ) → b ≡ 32 ∷ [] → (n : ℕ) → repeat {A = ℕ} n b ≡ replicate n 32
blanks b e zero = refl
blanks b e (suc n) = ap (λ c. c ++ repeat {A = ℕ} n b) e ∙ ap (λ t. 32 ∷ t) (blanks b e n)

filled : (b : List ℕ) → b ≡ 32 ∷ [] → (n p : ℕ) (t : List ℕ) → p ≡ n → (repeat {A = ℕ} p b ++ [] ++ [] ++ []) ++ (t ++ repeat {A = ℕ} (p - p) b) ≡ replicate n 32 ++ t
filled b is n p t e =
    let none : p - p ≡ 0 = omega arith in
    let front = repeat {A = ℕ} p b in
    ap (λ k. (front ++ [] ++ [] ++ []) ++ (t ++ repeat {A = ℕ} k b)) none
    ∙ ap (λ x. (front ++ [] ++ [] ++ []) ++ x) (append-nil t)
    ∙ ap (λ x. x ++ t) (append-nil (front ++ [] ++ []) ∙ append-nil (front ++ []) ∙ append-nil front ∙ blanks b is p ∙ ap (λ k. replicate k 32) e)

-- what a format of width 6 writes
pub columned : (t : List ℕ) → padded_integral (format_spec 32 3 0 6 18446744073709551615) false [] t ≡ column 6 t
unfolding padded_integral char_count encode
columned t = filled (encode 32) refl (6 - length t) (number_padding (format_spec 32 3 0 6 18446744073709551615) false [] (length t)) t (omega arith)
