-- A field holds a number exactly when it is that number's text in its columns. Assumes nothing.
use Rattle.std.proofs.Common.{◌≡◌, ℕ, zero, suc, ◌+◌, ◌-◌, ◌*◌, ◌^◌, ◌<◌, ◌≤◌, true, eqb, List, [], ◌∷◌, ◌++◌, length, get_or, replicate, ℤ, pos, negsuc, neg_ℤ, Some, None, decimal, Option, sym, refl, ap, ◌∙◌, subst, ⊎_elim, mul-le-mul_right, mul_assoc, arith, MatchOption}
use native.Mathlib.Nat.{pow-succ'}
use lib.Signed.{mag}
use Rattle.std.specs.Str.Parse.{digits_value, digits_value_after}
use Rattle.std.specs.Char.{digit_value}
use Rattle.std.specs.Fmt.{signed_decimal}
use Rattle.std.proofs.lemmas.Fmt.{decimal_nonempty, digits_value-decimal}
use Rattle.std.proofs.lemmas.Bool.{cond-true, cond-false, cases_Bool}
use Rattle.sheet.specs.Columns.{column, same_text, said, held}
use Rattle.sheet.specs.Laws.{FieldLaw}
use Rattle.sheet_laws.proofs.Columns.{own, first_digit, ten_mono, behind_blanks}

pub same_text_lem : (s t : List ℕ) → same_text s t ≡ true → s ≡ t
same_text_lem [] [] e = refl
same_text_lem [] (b ∷ t) e = cc
same_text_lem (a ∷ s) [] e = cc
same_text_lem (a ∷ s) (b ∷ t) e = grind (arith, same_text_lem s t)

pub text_same : (t : List ℕ) → same_text t t ≡ true
text_same [] = refl
text_same (b ∷ t) = grind (arith, text_same t)

-- blanks in front say nothing
said_blanks : (k : ℕ) (t : List ℕ) → said (replicate k 32 ++ t) ≡ said t
unfolding said
said_blanks zero t = refl
said_blanks (suc k) t = said_blanks k t

said_digits : (t : List ℕ) → 0 < length t → 48 ≤ get_or t 0 0 → said t ≡ pos (digits_value 10 t)
unfolding said
said_digits [] h k = absurd (omega arith)
said_digits (b ∷ t) h k = grind arith

said_signed : (z : ℤ) → mag z < 2 ^ 63 → said (signed_decimal z) ≡ z
unfolding said
said_signed (pos n) h = said_digits (decimal n) (decimal_nonempty n (omega arith)) (first_digit n (omega arith)) ∙ ap pos (digits_value-decimal own n (omega arith))
said_signed (negsuc n) h = ap (λ k. neg_ℤ (pos k)) (digits_value-decimal own (suc n) (omega arith))

-- the text of a number is held as that number
pub held_some : (t : List ℕ) (z : ℤ) → mag z < 2 ^ 63 → t ≡ column (length t) (signed_decimal z) → held t ≡ Some z
unfolding held
held_some t z h e =
    let s : said t ≡ z = ap said e ∙ said_blanks (length t - length (signed_decimal z)) (signed_decimal z) ∙ said_signed z h in
    let c : column (length t) (signed_decimal (said t)) ≡ t = ap (λ y. column (length t) (signed_decimal y)) s ∙ sym e in
    let b : same_text (column (length t) (signed_decimal (said t))) t ≡ true = ap (λ u. same_text u t) c ∙ text_same t in
    cond-true _ (Some (said t)) None b ∙ ap Some s

-- what is held is the text of that number
pub held_is : (t : List ℕ) (z : ℤ) → held t ≡ Some z → t ≡ column (length t) (signed_decimal z)
unfolding held
held_is t z e =
    ⊎_elim
    (λ b. let s = sym (cond-true _ (Some (said t)) None b) ∙ e in let y : said t ≡ z = cc in sym (same_text_lem _ t b) ∙ ap (λ x. column (length t) (signed_decimal x)) y)
    (λ b. let s = sym (cond-false _ (Some (said t)) None b) ∙ e in cc)
    (cases_Bool (same_text (column (length t) (signed_decimal (said t))) t))

-- no more is said than the columns have room for
digit_small : (c : ℕ) → digit_value c ≤ 36
digit_small c = grind arith

value_small : (a : ℕ) (t : List ℕ) → digits_value_after 10 a t + 4 ≤ (a + 4) * 10 ^ length t
value_small a [] = omega arith
value_small a (c ∷ t) =
    let d = digit_small c in
    let r = value_small (a * 10 + digit_value c) t in
    let m : (a * 10 + digit_value c + 4) * 10 ^ length t ≤ (a + 4) * 10 * 10 ^ length t = mul-le-mul_right (10 ^ length t) (omega arith) in
    let s = mul_assoc (a + 4) 10 (10 ^ length t) in
    let p = ap (λ x. (a + 4) * x) (pow-succ' 10 (length t)) in
    omega arith

pub said_small : (t : List ℕ) → length t ≤ 12 → mag (said t) < 2 ^ 63
unfolding said
said_small [] h = omega arith
said_small (b ∷ t) h =
    ⊎_elim
    (λ e. subst (λ z. mag z < 2 ^ 63) (sym (cond-true (eqb b 32) (said t) _ e)) (said_small t (omega arith)))
    (λ e. subst (λ z. mag z < 2 ^ 63) (sym (cond-false (eqb b 32) (said t) _ e))
    (⊎_elim
    (λ f. subst (λ z. mag z < 2 ^ 63) (sym (cond-true (eqb b 45) _ _ f)) (negated (digits_value 10 t) (let v = value_small 0 t in let m = ten_mono (length t) 12 (omega arith) in omega arith)))
    (λ f. subst (λ z. mag z < 2 ^ 63) (sym (cond-false (eqb b 45) _ _ f)) (let v = value_small 0 (b ∷ t) in let m = ten_mono (length (b ∷ t)) 12 (omega arith) in omega arith))
    (cases_Bool (eqb b 45))))
    (cases_Bool (eqb b 32))
  where
    negated : (n : ℕ) → n < 2 ^ 63 → mag (neg_ℤ (pos n)) < 2 ^ 63
    negated zero k = omega arith
    negated (suc n) k = omega arith

-- a field that is no number's text holds none
pub held_none : (t : List ℕ) → length t ≤ 12 → ((z : ℤ) → mag z < 2 ^ 63 → t ≡ column (length t) (signed_decimal z) → ⊥) → held t ≡ None
unfolding held
held_none t h none =
    ⊎_elim
    (λ b. absurd (none (said t) (said_small t h) (sym (same_text_lem _ t b))))
    (λ b. cond-false _ (Some (said t)) None b)
    (cases_Bool (same_text (column (length t) (signed_decimal (said t))) t))

-- what is read of the bytes behind the blanks is what the field holds
pub read_held : (t s : List ℕ) (r : Option ℤ) → length t ≤ 12 → (get_or s 0 0 ≡ 32 → ⊥) → t ≡ replicate (length t - length s) 32 ++ s → MatchOption r ((z : ℤ) → mag z < 2 ^ 63 → s ≡ signed_decimal z → ⊥) (λ z. (s ≡ signed_decimal z) × (mag z < 2 ^ 63)) → r ≡ held t
read_held t s (Some z) h f e (k, m) = sym (held_some t z m (e ∙ ap (λ u. replicate (length t - length u) 32 ++ u) k))
read_held t s None h f e none = sym (held_none t h (λ z m k. none z m (behind_blanks t s z m f e k)))

pub field_law : FieldLaw
field_law t z = record { held_text = λ e h. held_some t z h e; text_held = held_is t z }
