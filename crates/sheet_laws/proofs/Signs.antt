-- A number written from its last digit on, with a sign ahead of it. Assumes nothing.
use Rattle.std.proofs.Common.{◌≡◌, ℕ, zero, suc, ◌+◌, ◌-◌, ◌/◌, ◌%◌, ◌^◌, ◌<◌, ◌≤◌, List, [], ◌∷◌, ◌++◌, length, set, replicate, decimal, sym, refl, ap, ◌∙◌, arith}
use Rattle.std.proofs.lemmas.List.{append_assoc, length-append, length_push}
use Rattle.std.proofs.lemmas.Fmt.{decimal_digit, decimal_step, decimal_nonempty}
use Rattle.sheet.specs.Columns.{column}

-- the last byte of a column, and what stands ahead of it
pub column_push : (w : ℕ) (t : List ℕ) (d : ℕ) → column w (t ++ d ∷ []) ≡ column (w - 1) t ++ d ∷ []
column_push w t d =
    let e : w - length (t ++ d ∷ []) ≡ w - 1 - length t = omega (arith, length_push t d) in
    ap (λ k. replicate k 32 ++ (t ++ d ∷ [])) e ∙ sym (append_assoc (replicate (w - 1 - length t) 32) t (d ∷ []))

pub sign_one : (s : List ℕ) (w n : ℕ) → n < 10 → column w (s ++ decimal n) ≡ column (w - 1) s ++ (48 + n % 10) ∷ []
sign_one s w n h =
    let m : n ≡ n % 10 = omega arith in
    ap (λ x. column w (s ++ x)) (decimal_digit n h ∙ ap (λ k. (48 + k) ∷ []) m) ∙ column_push w s (48 + n % 10)

pub sign_step : (s : List ℕ) (w n : ℕ) → 10 ≤ n → n < 2 ^ 64 → column w (s ++ decimal n) ≡ column (w - 1) (s ++ decimal (n / 10)) ++ (48 + n % 10) ∷ []
sign_step s w n h k =
    ap (λ x. column w (s ++ x)) (decimal_step n h k) ∙ ap (column w) (sym (append_assoc s (decimal (n / 10)) ((48 + n % 10) ∷ []))) ∙ column_push w (s ++ decimal (n / 10)) (48 + n % 10)

-- how long a sign and the digits are
pub long_one : (s : List ℕ) (n : ℕ) → n < 2 ^ 64 → length s + 1 ≤ length (s ++ decimal n)
long_one s n h = omega (arith, decimal_nonempty n h, length-append s (decimal n))

pub long_step : (s : List ℕ) (n : ℕ) → 10 ≤ n → n < 2 ^ 64 → length (s ++ decimal n) ≡ length (s ++ decimal (n / 10)) + 1
long_step s n h k =
    let c = ap length (decimal_step n h k) ∙ length_push (decimal (n / 10)) (48 + n % 10) in
    omega (arith, length-append s (decimal n), length-append s (decimal (n / 10)))

-- a byte in the place of the last blank
pub set_blank : (k : ℕ) (v : ℕ) → set (replicate (suc k) 32) k v ≡ replicate k 32 ++ v ∷ []
set_blank zero v = refl
set_blank (suc k) v = ap (λ x. 32 ∷ x) (set_blank k v)
