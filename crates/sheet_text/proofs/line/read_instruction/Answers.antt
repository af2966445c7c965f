use Rattle.std.proofs.Common.{◌≡◌, take, drop, Ok, [], ◌∷◌, refl, rules}
use Rattle.sheet.specs.Columns.{field_read}
use Rattle.sheet.specs.Lines.{fields_read, line_of}
use Rattle.sheet.specs.declared.fields.Field.TheVariants.{Op, Operand}
use Rattle.sheet.specs.declared.fields.Letter.TheVariants.{I}
use Rattle.sheet_text.proofs.Unwraps.{op_bounds, op_there}
use Rattle.sheet_text.proofs.line.read_instruction.Goals as goal

pub unwrap-op-requires : goal.unwrap-op-requires
unwrap-op-requires c =
    let t = c.args.fields.now in
    let n = c.in_ok-number.number in
    let z = c.in_ok-operand.operand in
    let b = op_bounds t n z c.requires (search rules) (search rules) in
    let there = op_there n c.try_from.result b.0 b.1 (search (rules, c.try_from.ensures, b.0, b.1)) in
    search (rules, there.2)

pub returns : goal.returns
returns c =
    let t = c.args.fields.now in
    let n = c.in_ok-number.number in
    let z = c.in_ok-operand.operand in
    let op : field_read Op (take 6 t) ≡ Ok n = search rules in
    let operand : field_read Operand (take 12 (drop 6 t)) ≡ Ok z = search rules in
    let both : fields_read I t ≡ Ok (line_of I (n ∷ (z ∷ []))) = rw (op, operand) refl in
    let b = op_bounds t n z c.requires op operand in
    let there = op_there n c.try_from.result b.0 b.1 (search (rules, c.try_from.ensures, b.0, b.1)) in
    let is : there.0 ≡ c.unwrap-op.result = search (rules, there.2, c.unwrap-op.ensures) in
    search (rules, both, there.1, is)
