use Rattle.std.proofs.Common.{length, Err, sym, ap, ◌∙◌}
use Rattle.std.proofs.lemmas.Result.{err_from_is_err_and, IfOk-at_ok}
use Rattle.sheet_store.specs.Adding.{whole}
use Rattle.checking.proofs.Sheets.{code_length, has_room, made_more, refused_at, ok_unless}
use Rattle.checking.proofs.check.SheetCheck.check_one.Goals as goal

pub returns-in_err-check-clause-err : goal.returns-in_err-check-clause-err
returns-in_err-check-clause-err c =
    let sheet = c.args.self.now in
    let method = c.method-method in
    let same = err_from_is_err_and c.from_residual.result c.from_residual.ensures.1 in
    rw same.1 (refused_at sheet.read.now c.args.number c.args.out.now same.0 method.result.around.library.now method.result.around.shapes.now (whole method.result.around.own method.result.read.now method.result.handlers.now) method.ensures.library (method.ensures.shapes ∙ sheet.own_shapes) method.ensures.method c.requires.inside c.requires.made (c.in_err-check.ensures.err ∙ ap Err (sym same.2)))

pub unwrap-requires : goal.unwrap-requires
unwrap-requires c =
    let sheet = c.args.self.now in
    let method = c.method-method.result in
    let same = c.method-method.ensures.method in
    let code = code_length method.around method.read.now method.handlers.now c.check.new.code c.in_ok-check.ensures.ok ∙ ap (λ m. length m.code) same in
    ok_unless c.add_whole.result c.add_whole.ensures.full (has_room sheet.read.now c.args.number sheet.read_in_range c.requires.inside c.args.out.now _ _ code (ap (λ m. length m.handlers) same) c.requires.made)

pub returns-clause-ok : goal.returns-clause-ok
returns-clause-ok c =
    let sheet = c.args.self.now in
    let method = c.method-method in
    made_more sheet.read.now c.args.number c.args.out.now c.add_whole.new.self (whole method.result.around.own c.check.new.code method.result.handlers.now) method.result.around.library.now method.result.around.shapes.now (whole method.result.around.own method.result.read.now method.result.handlers.now) method.ensures.library (method.ensures.shapes ∙ sheet.own_shapes) method.ensures.method c.requires.inside c.requires.made c.in_ok-check.ensures.ok (IfOk-at_ok _ c.unwrap.ensures c.add_whole.ensures.ok)
