use Rattle.std.proofs.Common.{◌≡◌, ◌++◌, sym, ◌∙◌, subst}
use Rattle.std.specs.List.{flat_map}
use Rattle.sheet.specs.Text.{shape_text, instruction_text, handler_text}
use Rattle.sheet.specs.View.{method_at, nobody}
use Rattle.sheet_text.specs.Output.{Put}
use Rattle.sheet_text.proofs.Unwraps.{part_is}
use Rattle.sheet_text.proofs.Puts.{put_more}
use Rattle.sheet_text.proofs.writing.put_method.Goals as goal

pub returns : goal.returns
returns c =
    let m = method_at c.args.sheet.now c.args.method in
    let t = flat_map instruction_text m.code in
    let u = flat_map handler_text m.handlers in
    let start = c.args.out.now in
    let is : c.unwrap-shape.result ≡ m.shape = part_is (λ m. m.shape) c.args.sheet.now.methods c.args.method nobody c.unwrap-shape.result c.requires.there (sym c.shape.ensures ∙ c.unwrap-shape.ensures) in
    let shape = subst (λ x. Put (shape_text x) start c.put.new.out) is c.put.ensures in
    let code = subst (λ xs. Put (flat_map instruction_text xs) c.put.new.out c.all.new.self) c.code.ensures c.all.ensures in
    let handlers = subst (λ xs. Put (flat_map handler_text xs) c.all.new.self c.all-2.new.self) c.handlers.ensures c.all-2.ensures in
    put_more (shape_text m.shape) (t ++ u) start c.put.new.out shape c.all-2.new.self (put_more t u c.put.new.out c.all.new.self code c.all-2.new.self handlers)
