use Rattle.std.proofs.Common.{arith}
use Rattle.sheet_text.proofs.Puts.{next_fits}
use Rattle.sheet_text.proofs.output.Output.all.Goals as goal

pub put-requires : goal.put-requires
put-requires g c = next_fits g.T.Piece.text c.args.pieces.now c.loop-piece.piece-index c.piece-item.result c.piece-item.is (omega arith) c.args.self.now c.loop-piece.self c.loop-piece.invariant c.requires
