use Rattle.std.proofs.Common.{sym, ◌∙◌, arith}
use Rattle.checking.proofs.Sheets.{shape_next}
use Rattle.checking.proofs.check.own_shapes.Goals as goal

pub loop-method-preserved : goal.loop-method-preserved
loop-method-preserved c = c.push.ensures.items ∙ shape_next c.args.read.now.methods c.loop-method.shapes.items c.loop-method.method c.unwrap.result (omega arith) c.loop-method.invariant (sym c.shape.ensures ∙ c.unwrap.ensures)
