use Rattle.std.proofs.Common.{◌≤◌, length, sym, ◌∙◌, subst, arith, to_z-of_z, w32}
use Rattle.std.proofs.lemmas.Fmt.{length_signed_le}
use Rattle.std.specs.Fmt.{signed_decimal}
use Rattle.sheet_text.proofs.output.I32Piece.put.Goals as goal

pub column-requires-clause-fits : goal.column-requires-clause-fits
column-requires-clause-fits c =
    let short = length_signed_le 11 c.args.self.now (omega arith) (omega arith) in
    let same = c.from.ensures ∙ to_z-of_z {w = w32} (record { sfits = omega arith }) in
    rw (to_z-of_z (record { sfits = c.from.type_inv })) (subst (λ z. length (signed_decimal z) ≤ 12) (sym same) short)
