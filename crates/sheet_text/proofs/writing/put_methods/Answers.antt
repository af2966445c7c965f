use Rattle.std.proofs.Common.{arith}
use Rattle.std.proofs.lemmas.List.{get_or_default}
use Rattle.sheet.specs.Text.{method_text}
use Rattle.sheet.specs.View.{method_at, nobody}
use Rattle.sheet_text.proofs.Puts.{next_fits, next_put}
use Rattle.sheet_text.proofs.writing.put_methods.Goals as goal

pub put_method-requires-clause-room : goal.put_method-requires-clause-room
put_method-requires-clause-room c =
    let ms = c.args.sheet.now.methods in
    let i = c.loop-method.method in
    let m = method_at c.args.sheet.now i in
    next_fits method_text ms i m (get_or_default ms i nobody m (omega arith)) (omega arith) c.args.out.now c.loop-method.out c.loop-method.invariant c.requires

pub loop-method-preserved : goal.loop-method-preserved
loop-method-preserved c =
    let ms = c.args.sheet.now.methods in
    let i = c.loop-method.method in
    let m = method_at c.args.sheet.now i in
    next_put method_text ms i m (get_or_default ms i nobody m (omega arith)) (omega arith) c.args.out.now c.loop-method.out c.loop-method.invariant c.put_method.new.out c.put_method.ensures
