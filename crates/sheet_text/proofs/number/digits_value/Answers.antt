use Rattle.std.proofs.Common.{ap, arith}
use Rattle.std.specs.Char.{digit_value}
use Rattle.std.proofs.lemmas.Int.Digits.{digits_value_more, digits_more}
use Rattle.std.proofs.lemmas.Str.Parse.{digit_at}
use Rattle.sheet_laws.proofs.Columns.{value_below}
use Rattle.sheet_text.proofs.number.digits_value.Goals as goal

pub returns-in_err-digit : goal.returns-in_err-digit
returns-in_err-digit c = rw c.from_residual.ensures (λ d.
    let i = digit_at c.args.digits.now c.loop-b.b-index d (omega arith) in
    let n = c.in_err-digit.ensures.cases (omega arith) (omega arith) in
    omega arith)

pub overflow_mul-value : goal.overflow_mul-value
overflow_mul-value c = let b = value_below c.args.digits.now c.loop-b.b-index (omega arith) (omega arith) c.loop-b.invariant.0 in omega arith

pub overflow_add-value : goal.overflow_add-value
overflow_add-value c = let b = value_below c.args.digits.now c.loop-b.b-index (omega arith) (omega arith) c.loop-b.invariant.0 in omega arith

pub loop-b-preserved : goal.loop-b-preserved
loop-b-preserved c =
    let m = digits_value_more 10 c.args.digits.now c.loop-b.b-index (omega arith) in
    let d = c.in_ok-digit.ensures.value in
    let is = ap digit_value c.from.ensures in
    (digits_more 10 c.args.digits.now c.loop-b.b-index (omega arith) c.loop-b.invariant.0 (omega (arith, d.0, is)), omega (arith, d.1, is, c.from-in-loop-b.ensures))
