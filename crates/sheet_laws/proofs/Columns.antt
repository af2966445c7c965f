-- Decimal text and columns: digits, signs, blanks in front. Assumes nothing.
use Rattle.std.proofs.Common.{◌≡◌, ℕ, zero, suc, ◌+◌, ◌-◌, ◌/◌, ◌%◌, ◌^◌, ◌<◌, ◌≤◌, List, [], ◌∷◌, ◌++◌, length, get_or, take, drop, set, replicate, ℤ, pos, negsuc, Some, None, decimal, Option, sym, refl, ap, ◌∙◌, subst, arith, rules, MatchOption}
use native.Mathlib.Nat.{pow-le-pow_right, pow-succ'}
use Rattle.std.specs.Fmt.{signed_decimal}
use lib.Signed.{mag}
use Rattle.std.specs.Str.Parse.{AllDigits, digits_value}
use Rattle.std.proofs.lemmas.List.{append_assoc, length-take-le, drop-set, drop_all, places, take_rest, replicate_more, drop_more, length-drop}
use Rattle.std.proofs.lemmas.Int.Digits.{digits_value-lt}
use Rattle.std.proofs.lemmas.Str.Parse.{IsNumeralModel, numerals_by_value, tells_digits}
use Rattle.std.proofs.lemmas.Fmt.{decimal_digit, first_decimal, digits_decimal, decimal-digits_value}
use Rattle.sheet_laws.proofs.Signs.{sign_step}
use Rattle.sheet.specs.Columns.{column}

pub own : IsNumeralModel (AllDigits 10) (digits_value 10)
own = numerals_by_value (AllDigits 10) tells_digits

pub ten_mono : (i j : ℕ) → i ≤ j → 10 ^ i ≤ 10 ^ j
ten_mono i j h = pow-le-pow_right {n = 10} (omega arith) h

-- the bound that keeps the running value in range
pub value_below : (bs : List ℕ) (i : ℕ) → i < length bs → length bs ≤ 12 → AllDigits 10 (take i bs) → digits_value 10 (take i bs) < 10 ^ 11
value_below bs i h k d =
    let l = length-take-le i bs (omega arith) in
    let v = digits_value-lt 10 (take i bs) d in
    let m = ten_mono (length (take i bs)) 11 (omega arith) in
    omega arith

-- the last digit of a number in a column, and what stands ahead of it
pub column_one : (w n : ℕ) → 0 < w → n < 10 → column w (decimal n) ≡ replicate (w - 1) 32 ++ (48 + n % 10) ∷ []
column_one w n h k = let m : n % 10 ≡ n = omega arith in rw (decimal_digit n k, m) refl

pub column_step : (w n : ℕ) → 10 ≤ n → n < 2 ^ 64 → column w (decimal n) ≡ column (w - 1) (decimal (n / 10)) ++ (48 + n % 10) ∷ []
column_step w n h k = sign_step [] w n h k

-- a number of k digits without its last digit
pub tenth_fits : (k n : ℕ) → 0 < k → n < 10 ^ k → n / 10 < 10 ^ (k - 1)
tenth_fits k n h l =
    let e : k ≡ suc (k - 1) = omega arith in
    let p = ap (λ x. 10 ^ x) e ∙ pow-succ' 10 (k - 1) in
    omega arith

pub two_places : (k n : ℕ) → 10 ≤ n → n < 10 ^ k → 1 < k
two_places zero n h l = absurd (omega arith)
two_places (suc zero) n h l = absurd (omega arith)
two_places (suc (suc k)) n h l = omega arith

-- a decimal text does not begin with 0 unless it is 0
pub no_leading : (n : ℕ) → n < 2 ^ 64 → get_or (decimal n) 0 0 ≡ 48 → length (decimal n) ≡ 1
no_leading zero h e = ap length (decimal_digit 0 (omega arith))
no_leading (suc n) h e = absurd (let f = first_decimal (suc n) (omega arith) h in omega arith)

-- what is read of digits without a leading zero
pub read_is : (bs : List ℕ) (r : Option ℕ) → length bs ≤ 12 → 0 < length bs → (get_or bs 0 0 ≡ 48 → length bs ≡ 1) → MatchOption r (AllDigits 10 bs → ⊥) (λ n. AllDigits 10 bs × (n ≡ digits_value 10 bs)) → MatchOption r ((n : ℕ) → n < 2 ^ 64 → bs ≡ decimal n → ⊥) (λ n. (bs ≡ decimal n) × (n < 10 ^ 12))
read_is bs (Some n) l p z (d, e) =
    let v = digits_value-lt 10 bs d in
    let m = ten_mono (length bs) 12 l in
    (sym (decimal-digits_value own bs d p z (omega arith)) ∙ ap decimal (sym e), omega arith)
read_is bs None l p z no_digits = λ n h e. no_digits (subst (AllDigits 10) (sym e) (digits_decimal own n h))

-- what stands behind the front after a write to the last place, and how long the front is
pub last_one : (xs : List ℕ) (x : ℕ) → 0 < length xs → drop (length xs - 1 - 0) (set xs (length xs - 1) x) ≡ x ∷ []
last_one xs x h =
    let i : length xs - 1 < length xs = omega arith in
    let z : length xs - 1 - 0 ≡ length xs - 1 = omega arith in
    let d = drop-set xs (length xs - 1) x i in
    let n = drop_all (length xs - 1 + 1) xs (omega arith) in
    rw z (d ∙ ap (λ t. x ∷ t) n)

pub front_length : (xs : List ℕ) (x : ℕ) → length (take (length xs - 1 - 0) (set xs (length xs - 1) x)) ≡ length xs - 1
front_length xs x = search (rules, places)

pub first_digit : (n : ℕ) → n < 2 ^ 64 → 48 ≤ get_or (decimal n) 0 0
first_digit zero h = let e = ap (λ x. get_or x 0 0) (decimal_digit 0 (omega arith)) in omega arith
first_digit (suc n) h = let f = first_decimal (suc n) (omega arith) h in omega arith

pub first_signed : (z : ℤ) → mag z < 2 ^ 63 → get_or (signed_decimal z) 0 0 ≡ 32 → ⊥
first_signed (pos n) h e = let f = first_digit n (omega arith) in omega arith
first_signed (negsuc n) h e = omega arith

-- a text with a minus in front is that of a negative number
pub minus_number : (t : List ℕ) (z : ℤ) → mag z < 2 ^ 63 → get_or t 0 0 ≡ 45 → t ≡ signed_decimal z → (n : ℕ) × (z ≡ negsuc n) × (take (length t - 1) (drop 1 t) ≡ decimal (suc n)) × (suc n < 2 ^ 64)
minus_number t (pos n) h f e = absurd (let d = first_digit n (omega arith) in let g = ap (λ x. get_or x 0 0) e in omega arith)
minus_number t (negsuc n) h f e = (n, refl, take_rest t 1 ∙ ap (drop 1) e, omega arith)

-- one blank more is passed
pub skip_one : (field rest : List ℕ) → 0 < length rest → get_or rest 0 0 ≡ 32 → length rest ≤ length field → field ≡ replicate (length field - length rest) 32 ++ rest → (length (take (length rest - 1) (drop 1 rest)) ≤ length field) × (field ≡ replicate (length field - length (take (length rest - 1) (drop 1 rest))) 32 ++ take (length rest - 1) (drop 1 rest))
skip_one field rest p f l e =
    let r = take_rest rest 1 in
    let n = ap length r ∙ length-drop 1 rest in
    let a : length field - length (take (length rest - 1) (drop 1 rest)) ≡ length field - length rest + 1 = omega arith in
    let m = replicate_more {X = ℕ} (length field - length rest) 32 in
    let c = drop_more rest 0 0 p ∙ ap (λ x. x ∷ drop 1 rest) f in
    let s = append_assoc (replicate (length field - length rest) 32) (32 ∷ []) (drop 1 rest) in
    (omega arith, rw (a, r) (e ∙ ap (λ x. replicate (length field - length rest) 32 ++ x) c ∙ sym s ∙ ap (λ x. x ++ drop 1 rest) m))

-- what follows the blanks is determined
pub blanks_same : (j k : ℕ) (xs ys : List ℕ) → (get_or xs 0 0 ≡ 32 → ⊥) → (get_or ys 0 0 ≡ 32 → ⊥) → replicate j 32 ++ xs ≡ replicate k 32 ++ ys → xs ≡ ys
blanks_same zero zero xs ys f g e = e
blanks_same zero (suc k) xs ys f g e = absurd (f (ap (λ x. get_or x 0 0) e))
blanks_same (suc j) zero xs ys f g e = absurd (g (sym (ap (λ x. get_or x 0 0) e)))
blanks_same (suc j) (suc k) xs ys f g e = blanks_same j k xs ys f g (ap (drop 1) e)

-- the text behind the blanks is that of the number
pub behind_blanks : (field r : List ℕ) (z : ℤ) → mag z < 2 ^ 63 → (get_or r 0 0 ≡ 32 → ⊥) → field ≡ replicate (length field - length r) 32 ++ r → field ≡ column (length field) (signed_decimal z) → r ≡ signed_decimal z
behind_blanks field r z m f e k = blanks_same (length field - length r) (length field - length (signed_decimal z)) r (signed_decimal z) f (first_signed z m) (sym e ∙ k)
