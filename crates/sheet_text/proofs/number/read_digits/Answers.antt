use Rattle.std.proofs.Common.{◌≡◌, ◌<◌, length, get_or, sym, ap, ◌∙◌, arith, rules, ltb-false, ltb-true}
use Rattle.std.proofs.lemmas.Fmt.{decimal_nonempty}
use Rattle.sheet_laws.proofs.Columns.{no_leading, read_is}
use Rattle.sheet_text.proofs.number.read_digits.Goals.{in_default-via-then-digits-lt2, in_default-via-else-digits-lt2+in_default-1}
use Rattle.sheet_text.proofs.number.read_digits.Goals as goal

pub returns-in-empty : goal.returns-in-empty
returns-in-empty c n h e = omega (arith, ltb-true, ap length e, decimal_nonempty n h)

pub returns-in-48 : goal.returns-in-48
returns-in-48 c n h e =
    let f : get_or c.args.digits.now 0 0 ≡ 48 = search rules in
    let l = no_leading n h (sym (ap (λ x. get_or x 0 0) e) ∙ f) in
    omega (arith, ltb-false, ap length e)

pub returns-in_default : goal.returns-in_default
returns-in_default c =
    let p : 0 < length c.args.digits.now = omega (arith, ltb-false) in
    let z : get_or c.args.digits.now 0 0 ≡ 48 → length c.args.digits.now ≡ 1 = elim c.in_default.branch [ in_default-via-then-digits-lt2 w ↦ λ e. omega (arith, ltb-true) | in_default-via-else-digits-lt2+in_default-1 w ↦ λ e. omega (arith, ltb-false) ] in
    read_is c.args.digits.now c.digits_value.result (omega arith) p z c.digits_value.ensures
