use Rattle.std.proofs.Common.{◌<◌, ◌≤◌, length, sym, subst, arith, to_z-of_z}
use Rattle.std.proofs.lemmas.Fmt.{length-decimal-le}
use Rattle.std.specs.Fmt.{signed_decimal}
use Rattle.sheet_text.proofs.output.U16Piece.put.Goals as goal

pub column-requires-clause-fits : goal.column-requires-clause-fits
column-requires-clause-fits c =
    let few : c.args.self.now < 65536 = omega arith in
    let short = length-decimal-le 6 c.args.self.now (omega arith) (omega arith) (omega arith) in
    rw (to_z-of_z (record { sfits = c.from.type_inv })) (subst (λ z. length (signed_decimal z) ≤ 6) (sym c.from.ensures) short)
