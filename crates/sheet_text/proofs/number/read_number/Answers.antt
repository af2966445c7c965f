use Rattle.std.proofs.Common.{◌≡◌, suc, get_or, sym, ◌∙◌, arith, rules}
use Rattle.std.proofs.lemmas.Fmt.{decimal_injective}
use Rattle.sheet_laws.proofs.Columns.{minus_number}
use Rattle.sheet_text.proofs.number.read_number.Goals as goal

pub returns-in_err-n : goal.returns-in_err-n
returns-in_err-n c =
    let f : get_or c.args.text.now 0 0 ≡ 45 = search rules in
    rw c.from_residual.ensures (λ z h e. let m = minus_number c.args.text.now z h f e in c.in_err-n.ensures (suc m.0) m.3 m.2)

pub returns-then-n-eq0 : goal.returns-then-n-eq0
returns-then-n-eq0 c z h e =
    let f : get_or c.args.text.now 0 0 ≡ 45 = search rules in
    let m = minus_number c.args.text.now z h f e in
    let k = c.in_ok-n.ensures in
    let s = decimal_injective (suc m.0) c.in_ok-n.n m.3 (omega arith) (sym m.2 ∙ k.0) in
    omega arith
