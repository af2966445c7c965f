use Rattle.std.proofs.Common.{[], ◌∷◌, ◌++◌, subst}
use Rattle.std.specs.List.{flat_map}
use Rattle.sheet.specs.Fields.{letter_byte}
use Rattle.sheet.specs.Text.{count}
use Rattle.sheet_text.specs.Output.{Put}
use Rattle.sheet_text.proofs.Puts.{put_more}
use Rattle.sheet_text.proofs.output.Output.line.Goals as goal

pub returns : goal.returns
returns c =
    let fields = flat_map count c.args.fields.now in
    let letter = subst (λ b. Put (b ∷ []) c.args.self.now c.byte.new.self) c.from.ensures c.byte.ensures in
    let rest = put_more fields (10 ∷ []) c.byte.new.self c.all.new.self c.all.ensures c.byte-2.new.self c.byte-2.ensures in
    put_more (letter_byte c.args.letter ∷ []) (fields ++ 10 ∷ []) c.args.self.now c.byte.new.self letter c.byte-2.new.self rest
