use Rattle.std.proofs.Common.{arith}
use Rattle.checking.proofs.Turns.{no_handler, catch_inside}
use Rattle.checking.proofs.method.MethodCheck.mark_catches.Goals as goal

pub bounds-depths-begin : goal.bounds-depths-begin
bounds-depths-begin c = omega (arith, catch_inside c.args.self.now.handlers.now c.loop-handler.handler-index _ no_handler (omega arith) c.requires, c.loop-handler.auto.depths, c.from-begin.ensures, c.number.ensures)
