use Rattle.std.proofs.Common.{[], ◌∷◌, ◌++◌, ◌∙◌, subst}
use Rattle.std.specs.Fmt.{signed_decimal}
use Rattle.sheet.specs.Columns.{column}
use Rattle.sheet.specs.Text.{count}
use Rattle.sheet.specs.Ops.{op_number}
use Rattle.sheet_text.specs.Output.{Put}
use Rattle.sheet_text.proofs.Puts.{put_none, put_more}
use Rattle.sheet_text.proofs.writing.ReadInstructionPiece.put.Goals as goal

pub returns : goal.returns
returns c =
    let s = count (op_number c.args.self.now.op) in
    let t = column 12 (signed_decimal c.args.self.now.operand) in
    let start = c.args.out.now in
    let letter = subst (λ b. Put (b ∷ []) start c.byte.new.self) c.from.ensures c.byte.ensures in
    let op = subst (λ n. Put (count n) c.byte.new.self c.put.new.out) (c.from-3.ensures ∙ c.from-2.ensures) c.put.ensures in
    let numbers = put_more s (t ++ []) c.byte.new.self c.put.new.out op c.put-2.new.out (put_more t [] c.put.new.out c.put-2.new.out c.put-2.ensures c.put-2.new.out (put_none c.put-2.new.out)) in
    let rest = put_more (s ++ (t ++ [])) (10 ∷ []) c.byte.new.self c.put-2.new.out numbers c.byte-2.new.self c.byte-2.ensures in
    put_more (73 ∷ []) ((s ++ (t ++ [])) ++ 10 ∷ []) start c.byte.new.self letter c.byte-2.new.self rest
